use Rattle.std.proofs.Common.{sym, ◌+◌, ◌∙◌, arith, drop}
use Rattle.std.proofs.lemmas.List.{take_rest}
use Rattle.std.proofs.Math.Nat.{pow-le-pow_right}
use Rattle.std.proofs.lemmas.Nat.{and_mask}
use Rattle.rpki_der.proofs.OctetBitLaws.{top-clear, top-set}
use Rattle.rpki_der.proofs.TagNumberLaws.{turn-empty, turn-small, turn-end, turn-long, turn-more, turn-done, turn-room}
use Rattle.rpki_der.proofs.PartReadingLaws.{part-accepts, part-refuses, number-part}
use Rattle.rpki_der.proofs.header.tag_number.Goals as goal

pub returns : goal.returns
returns c = part-refuses number-part c.args.s.now _ (λ i. omega (arith, c.type_inv.s i))
    (sym c.loop-i.invariant.rest ∙ turn-done c.loop-i.i c.loop-i.number (drop c.loop-i.i c.args.s.now)
    c.loop-i-test.false)

pub returns-then-i-s : goal.returns-then-i-s
returns-then-i-s c = part-refuses number-part c.args.s.now _ (λ i. omega (arith, c.type_inv.s i))
    (sym c.loop-i.invariant.rest ∙ turn-empty c.loop-i.i c.loop-i.number c.args.s.now c.loop-i-test.true c.if-i-s.true)

pub returns-then-number-lt31 : goal.returns-then-number-lt31
returns-then-number-lt31 c = part-refuses number-part c.args.s.now _ (λ i. omega (arith, c.type_inv.s i))
    (sym c.loop-i.invariant.rest ∙ turn-small c.loop-i.i c.loop-i.number c.args.s.now c.loop-i-test.true c.if-i-s.false
    (top-clear _ (omega (arith, c.type_inv.s c.loop-i.i)) c.if-octet-eq0.true)
    (rw (← and_mask _ 7, ← c.from.ensures) c.if-number-lt31.true))

pub returns-then-octet-eq0 : goal.returns-then-octet-eq0
returns-then-octet-eq0 c =
    rw (c.from.ensures, and_mask _ 7, take_rest c.args.s.now (c.loop-i.i + 1))
    (part-accepts number-part c.args.s.now _ _ (λ i. omega (arith, c.type_inv.s i))
    (sym c.loop-i.invariant.rest ∙ turn-end c.loop-i.i c.loop-i.number c.args.s.now c.loop-i-test.true c.if-i-s.false
    (top-clear _ (omega (arith, c.type_inv.s c.loop-i.i)) c.if-octet-eq0.true)
    (rw (← and_mask _ 7, ← c.from.ensures) c.if-number-lt31.false)))

pub returns-then-number-eq0 : goal.returns-then-number-eq0
returns-then-number-eq0 c = part-refuses number-part c.args.s.now _ (λ i. omega (arith, c.type_inv.s i))
    (sym c.loop-i.invariant.rest ∙ turn-long c.loop-i.i c.loop-i.number c.args.s.now c.loop-i-test.true c.if-i-s.false
    (top-set _ (omega (arith, c.type_inv.s c.loop-i.i)) c.if-octet-eq0.false) (omega (arith, c.type_inv.s c.loop-i.i))
    (rw (← and_mask _ 7, ← c.from.ensures) c.if-number-eq0.true))

pub loop-i-preserved : goal.loop-i-preserved
loop-i-preserved c = record {
  rest = rw (c.from.ensures, and_mask _ 7)
      (sym (turn-more c.loop-i.i c.loop-i.number c.args.s.now c.loop-i-test.true c.if-i-s.false
      (top-set _ (omega (arith, c.type_inv.s c.loop-i.i)) c.if-octet-eq0.false) (omega (arith, c.type_inv.s c.loop-i.i))
      (rw (← and_mask _ 7, ← c.from.ensures) c.if-number-eq0.false)) ∙ c.loop-i.invariant.rest);
  room = rw (c.from.ensures, and_mask _ 7)
      (turn-room c.loop-i.i c.loop-i.number _ c.loop-i-test.true c.loop-i.invariant.room (omega arith));
}

pub overflow_add-number : goal.overflow_add-number
overflow_add-number c =
    let most = pow-le-pow_right {n = 128} (omega arith) {i = c.loop-i.i} {j = 3} (omega arith) in
    rw (c.from.ensures, and_mask _ 7) (omega (arith, c.loop-i.invariant.room, most))
