use Rattle.std.proofs.Common.{arith}
use Rattle.rpki_resources.proofs.BlockWritingLaws.{block-short, first-fits}
use Rattle.rpki_resources.proofs.encode.blocks.blocks_len.Goals as goal

pub overflow_add-total : goal.overflow_add-total
overflow_add-total c =
    let fits = first-fits c.args.kind c.each.rest.now c.in-Some.following.now c.in-Some.first.now
    c.in-Some.ensures.cases.0 c.each.invariant.fit in
    let few = (block-short c.args.kind c.in-Some.first.now fits.0).few in
    record { fits = omega (arith, few, c.block_len-total.ensures, c.each.invariant.below) }
