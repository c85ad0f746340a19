use Rattle.rpki_contents.proofs.RoaWritingLaws.{prefixes-values}
use Rattle.rpki_contents.proofs.roa_encoder.PrefixesEncoderValues.count.Goals as goal

pub returns : goal.returns
returns c = rw (← c.self.view_is) (prefixes-values c.self.inside.addresses.now c.self.invariant)
