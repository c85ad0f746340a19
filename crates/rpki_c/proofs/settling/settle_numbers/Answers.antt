use Rattle.rpki_c.proofs.ResourceLaws.{settled-fits}
use Rattle.rpki_c.proofs.settling.settle_numbers.Goals as goal

pub fill_as-requires : goal.fill_as-requires
fill_as-requires c =
    let (v, h) = c.in-Ok-settle.ensures.some in
    rw c.as_slice.ensures.blocks
    (settled-fits c.args.policy v c.in-Ok.numbers c.in-Ok-settle.own (c.requires v h) c.in-Ok.ensures.small
    c.as_slice.ensures.canonical (c.in-Ok-settle.ensures.settled v h))
