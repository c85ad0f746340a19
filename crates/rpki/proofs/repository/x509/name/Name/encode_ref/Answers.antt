use Rattle.rpki.proofs.NameLaws.{name-value}
use Rattle.rpki.proofs.OneNameLaws.{one-name}
use Rattle.rpki.proofs.repository.x509.name.Name.encode_ref.Goals as goal

pub returns-clause-one : goal.returns-clause-one
returns-clause-one c = name-value c.self.invariant.0 _ c.self.invariant.1

pub returns-clause-one_reading : goal.returns-clause-one_reading
returns-clause-one_reading c = one-name c.self.inside.captured
