use Rattle.rpki_der.proofs.HashLaws.{hashed-octets}
use Rattle.rpki.proofs.laws.key_identifiers_go_by_their_octets.Goals as goal

pub returns-clause-hash : goal.returns-clause-hash
returns-clause-hash c = λ k l. hashed-octets k l
