use Rattle.rpki_attributes.specs.SignedAttributes.{values_known}
use Rattle.rpki_attributes.proofs.AttributesWritingLaws.{contents-fit}
use Rattle.rpki_attributes.proofs.encode.AttributesBuilderValues.fits.Goals as goal

pub returns : goal.returns
returns c = rw (← c.self.view_is) (contents-fit (values_known c.self.inside.values.now) c.self.invariant)
