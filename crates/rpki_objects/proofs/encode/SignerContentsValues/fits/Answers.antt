use Rattle.rpki_objects.specs.EncodedObject.{built_of}
use Rattle.rpki_objects.proofs.ObjectWritingLaws.{signer-fits}
use Rattle.rpki_objects.proofs.encode.SignerContentsValues.fits.Goals as goal

pub returns : goal.returns
returns c = rw (← c.self.view_is) (signer-fits (built_of c.self.inside.parts.now) c.self.invariant)
