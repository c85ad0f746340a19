use Rattle.rpki_resources.proofs.AsReadLaws.{block-read-back}
use Rattle.rpki_resources.proofs.laws.as_blocks_are_read_back.Goals as goal

pub returns : goal.returns
returns c = block-read-back
