use Rattle.rpki_der.proofs.MembersLaws.{half-of}
use Rattle.rpki_der.proofs.laws.two_octets_a_header.Goals as goal

pub returns : goal.returns
returns c = half-of
