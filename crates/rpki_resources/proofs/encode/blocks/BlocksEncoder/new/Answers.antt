use Rattle.rpki_resources.proofs.BlockWritingLaws.{value-list}
use Rattle.rpki_resources.proofs.encode.blocks.BlocksEncoder.new.Goals as goal

pub returns-clause-short : goal.returns-clause-short
returns-clause-short c = value-list c.args.kind c.args.blocks.now c.requires
