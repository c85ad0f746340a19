use Rattle.rpki_der.proofs.WritingLaws.{writes_of_cut}
use Rattle.rpki_text.proofs.uri.general_name.RefRsyncPrimitiveContent.write_encoded.Goals as goal

pub returns : goal.returns
returns g c = rw (← c.as_slice.ensures.text) (writes_of_cut _ _ c.write_whole.result _ c.write_whole.ensures)
