use Rattle.rpki_der.proofs.WritingLaws.{writes_of_cut}
use Rattle.rpki_der.proofs.encode.standing.StandingValueValues.write_encoded.Goals as goal

pub returns : goal.returns
returns g c = rw (← c.octets.ensures.octets) (writes_of_cut _ _ _ _ c.write_whole.ensures)
