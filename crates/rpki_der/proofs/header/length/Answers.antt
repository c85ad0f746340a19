use Rattle.std.proofs.Common.{arith, inl, inr}
use Rattle.rpki_der.proofs.OctetBitLaws.{top-clear, top-set, below-top}
use Rattle.rpki_der.proofs.PartReadingLaws.{part-accepts, part-refuses, length-part, length-none, length-first}
use Rattle.rpki_der.proofs.PartReadingLaws.{length-bad, length-follows}
use Rattle.rpki_der.proofs.header.length.Goals.{then-count-eq0-via-then-count-eq0}
use Rattle.rpki_der.proofs.header.length.Goals.{then-count-eq0-via-else-count-eq0+then-count-gt4}
use Rattle.rpki_der.proofs.header.length.Goals as goal

pub returns-in_default : goal.returns-in_default
returns-in_default c = part-refuses length-part c.args.s.now _ (λ i. omega (arith, c.type_inv.s i))
    (length-none c.args.s.now c.in_default.len_below)

pub returns-then-first-eq0 : goal.returns-then-first-eq0
returns-then-first-eq0 c =
    rw c.from.ensures
    (part-accepts length-part c.args.s.now _ _ (λ i. omega (arith, c.type_inv.s i))
    (length-first c.args.s.now c.in-len1-up.len_at_least (top-clear _ (c.type_inv.s 0).fits c.if-first-eq0.true)))

pub returns-then-count-eq0 : goal.returns-then-count-eq0
returns-then-count-eq0 c =
    let lt = (c.type_inv.s 0).fits in
    let ge = top-set _ lt c.if-first-eq0.false in
    let low = below-top _ lt ge in
    part-refuses length-part c.args.s.now _ (λ i. omega (arith, c.type_inv.s i))
    (length-bad c.args.s.now c.in-len1-up.len_at_least ge
    (elim c.then-count-eq0.branch [
      | then-count-eq0-via-then-count-eq0 w ↦ inl (omega (arith, low, ge, w.if-count-eq0.true))
      | then-count-eq0-via-else-count-eq0+then-count-gt4 w ↦ inr (omega (arith, low, ge, w.if-count-gt4.true))
    ]))

pub returns : goal.returns
returns c =
    let lt = (c.type_inv.s 0).fits in
    let ge = top-set _ lt c.if-first-eq0.false in
    let low = below-top _ lt ge in
    length-follows (λ x. (x.0, x.1.now)) c.args.s.now c.long_length.result (λ i. omega (arith, c.type_inv.s i))
    c.in-len1-up.len_at_least
    (omega (arith, low, ge, c.if-count-eq0.false)) (omega (arith, low, c.if-count-gt4.false))
    (rw (c.from-2.ensures, low) at c.long_length.ensures)
