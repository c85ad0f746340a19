use Rattle.rpki_resources.proofs.BlockWritingLaws.{blocks-values}
use Rattle.rpki_resources.proofs.encode.blocks.BlocksEncoderValues.count.Goals as goal

pub returns : goal.returns
returns c = rw (← c.self.view_is) (blocks-values c.self.inside.kind c.self.inside.blocks.now c.self.invariant)
