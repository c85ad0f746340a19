use Rattle.rpki_resources.proofs.EqualBlocksLaws.{one-set}
use Rattle.rpki_resources.proofs.laws.equal_blocks_are_one_set.Goals as goal

pub returns : goal.returns
returns c = one-set
