use Rattle.std.proofs.Common.{sym, ◌∙◌, arith}
use Rattle.rpki_der.proofs.LengthLaws.{turn-empty, turn-zero, turn-more, turn-small, turn-end, turn-room, before-room}
use Rattle.rpki_der.proofs.PartReadingLaws.{part-accepts, part-refuses, long-part}
use Rattle.rpki_der.proofs.header.any_length.Goals as goal

pub loop-i-preserved : goal.loop-i-preserved
loop-i-preserved c = record {
  rest = rw c.from.ensures
      (sym (turn-more c.args.count c.loop-i.i c.loop-i.length c.args.s.now c.loop-i-test.true c.if-i-s.false
      (rw (← c.from.ensures) c.if-length-eq0.false)) ∙ c.loop-i.invariant.rest);
  room = rw c.from.ensures (turn-room c.loop-i.i c.loop-i.length _ c.loop-i.invariant.room
      (omega (arith, c.type_inv.s c.loop-i.i)));
  within = omega arith;
}

pub returns-then-i-s : goal.returns-then-i-s
returns-then-i-s c =
    part-refuses (long-part c.args.count (omega arith)) c.args.s.now _ (λ i. omega (arith, c.type_inv.s i))
    (sym c.loop-i.invariant.rest ∙ turn-empty c.args.count c.loop-i.i c.loop-i.length c.args.s.now c.loop-i-test.true
    c.if-i-s.true)

pub overflow_mul-length : goal.overflow_mul-length
overflow_mul-length c = omega (arith, before-room c.loop-i.i c.loop-i.length (omega arith) c.loop-i.invariant.room)

pub returns-then-length-eq0 : goal.returns-then-length-eq0
returns-then-length-eq0 c =
    part-refuses (long-part c.args.count (omega arith)) c.args.s.now _ (λ i. omega (arith, c.type_inv.s i))
    (sym c.loop-i.invariant.rest ∙ turn-zero c.args.count c.loop-i.i c.loop-i.length c.args.s.now c.loop-i-test.true
    c.if-i-s.false (rw (← c.from.ensures) c.if-length-eq0.true))

pub returns-then-length-lt128 : goal.returns-then-length-lt128
returns-then-length-lt128 c =
    part-refuses (long-part c.args.count (omega arith)) c.args.s.now _ (λ i. omega (arith, c.type_inv.s i))
    (sym c.loop-i.invariant.rest ∙ turn-small c.args.count c.loop-i.i c.loop-i.length _ c.loop-i-test.false
    c.if-length-lt128.true)

pub returns : goal.returns
returns c = part-accepts (long-part c.args.count (omega arith)) c.args.s.now _ _ (λ i. omega (arith, c.type_inv.s i))
    (turn-end c.args.count c.loop-i.i c.loop-i.length c.args.s.now _ (omega arith) c.if-length-lt128.false
    c.loop-i.invariant.rest)
