use Rattle.std.proofs.Common.{arith}
use Rattle.rpki_resources.proofs.BlocksLaws.{halves-passed, through}
use Rattle.rpki_resources.proofs.blocks.from_number.Goals as goal

pub halves-preserved-in-Some-split_first : goal.halves-preserved-in-Some-split_first
halves-preserved-in-Some-split_first c =
    let split = c.split_at.ensures in
    let first = c.in-Some-split_first.ensures.cases in
    let passed = halves-passed c.halves.rest.now c.split_at.result.0.now c.split_at.result.1.now
    c.in-Some-split_first.others.now c.in-Some-split_first.block.now c.args.number split.by_index.0 first.0
    c.halves.invariant.canonical c.if-block-number.true in
    let behind = split.back_len in
    let one = first.1 in
    let few = c.halves.invariant.few in
    let shorter = c.halves.invariant.shorter in
    record {
      few = omega arith;
      shorter = omega arith;
      canonical = passed.0;
      same = λ n from. through (c.halves.invariant.same n from) (passed.1 n from);
    }
