use Rattle.rpki_der.proofs.MembersLaws.{value-accepted}
use Rattle.rpki_der.proofs.laws.values_read_back.Goals as goal

pub returns : goal.returns
returns c = value-accepted
