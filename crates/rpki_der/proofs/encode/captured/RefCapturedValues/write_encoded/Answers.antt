use Rattle.rpki_der.proofs.WritingLaws.{writes_of_cut}
use Rattle.rpki_der.proofs.encode.captured.RefCapturedValues.write_encoded.Goals as goal

pub returns : goal.returns
returns g c = rw (← c.as_slice.ensures) (writes_of_cut _ _ _ _ c.write_whole.ensures)
