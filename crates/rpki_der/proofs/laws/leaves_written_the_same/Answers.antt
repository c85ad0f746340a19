use Rattle.rpki_der.proofs.LeafWritingLaws.{booleans-apart, numbers-apart, identifiers-apart, octets-apart, bits-apart}
use Rattle.rpki_der.proofs.laws.leaves_written_the_same.Goals as goal

pub returns-clause-booleans : goal.returns-clause-booleans
returns-clause-booleans c = booleans-apart

pub returns-clause-identifiers : goal.returns-clause-identifiers
returns-clause-identifiers c = identifiers-apart

pub returns-clause-octets : goal.returns-clause-octets
returns-clause-octets c = octets-apart

pub returns-clause-bits : goal.returns-clause-bits
returns-clause-bits c = bits-apart

pub returns-clause-numbers : goal.returns-clause-numbers
returns-clause-numbers c = numbers-apart
