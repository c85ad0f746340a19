use Rattle.rpki_contents.proofs.WritingLaws.{parts-values}
use Rattle.rpki_contents.proofs.encode.FilePartsValues.count.Goals as goal

pub returns : goal.returns
returns c = rw (← c.self.view_is) (parts-values c.self.inside.file.now c.self.invariant)
