use Rattle.rpki_objects.proofs.ObjectReadLaws.{object-back}
use Rattle.rpki_objects.proofs.laws.written_objects_are_read.Goals as goal

pub returns : goal.returns
returns c = object-back
