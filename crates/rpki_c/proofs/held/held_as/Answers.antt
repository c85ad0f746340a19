use Rattle.std.proofs.Common.{◌^◌}
use Rattle.rpki_c.proofs.ResourceLaws.{among-small}
use Rattle.rpki_c.proofs.held.held_as.Goals as goal

pub returns-in-Ok-clause-small : goal.returns-in-Ok-clause-small
returns-in-Ok-clause-small c = λ n a.
    let found = (c.in-Ok.ensures.numbers.numbers n).0 a in
    among-small (2 ^ 32) n c.in_ok-blocks.blocks.items c.in_ok-blocks.ensures.small
    (rw c.as_slice.ensures.value at found)
