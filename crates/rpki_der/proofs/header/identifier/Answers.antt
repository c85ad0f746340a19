use Rattle.std.proofs.Common.{◌∙◌, arith}
use Rattle.std.proofs.lemmas.Result.{err_from_is_err_and}
use Rattle.std.proofs.lemmas.Nat.{and_mask}
use Rattle.rpki_der.proofs.PartReadingLaws.{part-accepts, part-refuses, identifier-part, identifier-nothing}
use Rattle.rpki_der.proofs.PartReadingLaws.{identifier-zero, identifier-first, number-follows, number-refused}
use Rattle.rpki_der.proofs.header.identifier.Goals.{else-first-eq0-via-then-first-eq0+else-low-eq0}
use Rattle.rpki_der.proofs.header.identifier.Goals.{else-first-eq0-via-else-first-eq0}
use Rattle.rpki_der.proofs.header.identifier.Goals as goal

pub new-requires-2 : goal.new-requires-2
new-requires-2 c =
    let n = c.in_ok-number.ensures.spells.spelled in
    let low = n.low in
    record { below = n.high; named = λ u. omega arith }

pub returns-in_default : goal.returns-in_default
returns-in_default c = part-refuses identifier-part c.args.s.now _ (λ i. omega (arith, c.type_inv.s i))
    (identifier-nothing c.args.s.now c.in_default.len_below)

pub returns-then-low-eq0 : goal.returns-then-low-eq0
returns-then-low-eq0 c =
    part-refuses identifier-part c.args.s.now _ (λ i. omega (arith, c.type_inv.s i))
    (identifier-zero c.args.s.now c.in-len1-up.len_at_least c.if-first-eq0.true
    (rw (c.from-low.ensures, and_mask _ 5) at c.if-low-eq0.true))

pub returns-then-low-lt31 : goal.returns-then-low-lt31
returns-then-low-lt31 c =
    rw (c.new.ensures, c.from-low.ensures, and_mask _ 5, and_mask _ 1)
    (part-accepts identifier-part c.args.s.now _ _ (λ i. omega (arith, c.type_inv.s i))
    (identifier-first c.args.s.now c.class_of-class.result c.in-len1-up.len_at_least c.class_of-class.ensures
    (rw (c.from-low.ensures, and_mask _ 5) at c.if-low-lt31.true)
    (λ class low.
    elim c.else-first-eq0.branch [
      | else-first-eq0-via-then-first-eq0+else-low-eq0 w ↦ w.if-low-eq0.false (c.from-low.ensures ∙ and_mask _ 5 ∙ low)
      | else-first-eq0-via-else-first-eq0 w ↦ w.if-first-eq0.false class
    ])))

pub returns-in_err-number : goal.returns-in_err-number
returns-in_err-number c =
    let p = err_from_is_err_and c.from_residual.result c.from_residual.ensures.1 in
    rw (p.1, p.2)
    (number-refused c.args.s.now c.in_err-number.field-0.0 (λ i. omega (arith, c.type_inv.s i))
    c.in-len1-up.len_at_least (rw (c.from-low.ensures, and_mask _ 5) at c.if-low-lt31.false) c.in_err-number.ensures)

pub returns : goal.returns
returns c =
    rw (c.new-2.ensures, and_mask _ 1)
    (number-follows c.args.s.now c.class_of-class.result c.in_ok-number.number c.in_ok-number.rest.now
    (λ i. omega (arith, c.type_inv.s i)) c.in-len1-up.len_at_least
    c.class_of-class.ensures (rw (c.from-low.ensures, and_mask _ 5) at c.if-low-lt31.false) c.in_ok-number.ensures)
