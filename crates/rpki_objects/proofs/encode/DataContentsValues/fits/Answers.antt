use Rattle.rpki_objects.specs.EncodedObject.{built_of}
use Rattle.rpki_objects.proofs.ObjectWritingLaws.{data-fits}
use Rattle.rpki_objects.proofs.encode.DataContentsValues.fits.Goals as goal

pub returns : goal.returns
returns c = rw (← c.self.view_is) (data-fits (built_of c.self.inside.parts.now) c.self.invariant)
