use Rattle.rpki_der.proofs.WritingLaws.{writes_of_cut}
use Rattle.rpki_contents.proofs.aspa_encoder.AspaVersionPrimitiveContent.write_encoded.Goals as goal

pub returns : goal.returns
returns g c = writes_of_cut _ _ _ _ c.write_whole.ensures
