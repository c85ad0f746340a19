use Rattle.std.proofs.Common.{◌∙◌, arith}
use Rattle.std.proofs.lemmas.Nat.{and_mask}
use Rattle.std.proofs.lemmas.List.{take_rest}
use Rattle.rpki_der.proofs.PartReadingLaws.{part-accepts, identifier-part, identifier-first}
use Rattle.rpki_der.proofs.header.low_identifier.Goals.{else-first-eq0-via-then-first-eq0+else-low-eq0}
use Rattle.rpki_der.proofs.header.low_identifier.Goals.{else-first-eq0-via-else-first-eq0}
use Rattle.rpki_der.proofs.header.low_identifier.Goals as goal

pub returns-clause-found : goal.returns-clause-found
returns-clause-found c =
    let e = c.from-low.ensures ∙ and_mask _ 5 in
    rw (c.new-tag.ensures, c.from-low.ensures, and_mask _ 5, and_mask _ 1)
    (part-accepts identifier-part c.args.s.now _ _ (λ i. omega (arith, c.type_inv.s i))
    (rw (take_rest c.args.s.now 1) at (identifier-first c.args.s.now c.class_of.result
    (omega (arith, c.in-len2-up.len_at_least)) c.class_of.ensures (omega (arith, e, c.if-low-eq31.false))
    (λ class low.
    elim c.else-first-eq0.branch [
      | else-first-eq0-via-then-first-eq0+else-low-eq0 w ↦ w.if-low-eq0.false (e ∙ low)
      | else-first-eq0-via-else-first-eq0 w ↦ w.if-first-eq0.false class
    ]))))
