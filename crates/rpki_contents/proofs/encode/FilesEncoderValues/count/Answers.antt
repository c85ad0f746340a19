use Rattle.rpki_contents.proofs.WritingLaws.{files-values}
use Rattle.rpki_contents.proofs.encode.FilesEncoderValues.count.Goals as goal

pub returns : goal.returns
returns c = rw (← c.self.view_is) (files-values c.self.inside.files.now c.self.invariant)
