use Rattle.rpki_contents.proofs.WritingLaws.{parts-fit}
use Rattle.rpki_contents.proofs.encode.FilePartsValues.fits.Goals as goal

pub returns : goal.returns
returns c = rw (← c.self.view_is) (parts-fit c.self.inside.file.now c.self.invariant)
