use Rattle.rpki_der.proofs.LeafWritingLaws.{null-back, booleans-back, numbers-back, identifiers-back, octets-back}
use Rattle.rpki_der.proofs.LeafWritingLaws.{bits-back}
use Rattle.rpki_der.proofs.laws.leaves_read_back.Goals as goal

pub returns-clause-null : goal.returns-clause-null
returns-clause-null c = null-back

pub returns-clause-booleans : goal.returns-clause-booleans
returns-clause-booleans c = booleans-back

pub returns-clause-numbers : goal.returns-clause-numbers
returns-clause-numbers c = numbers-back

pub returns-clause-identifiers : goal.returns-clause-identifiers
returns-clause-identifiers c = identifiers-back

pub returns-clause-octets : goal.returns-clause-octets
returns-clause-octets c = octets-back

pub returns-clause-bits : goal.returns-clause-bits
returns-clause-bits c = bits-back
