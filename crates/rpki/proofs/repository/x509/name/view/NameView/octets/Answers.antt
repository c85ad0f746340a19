use Rattle.rpki.proofs.NameLaws.{name-value}
use Rattle.rpki.proofs.repository.x509.name.view.NameView.octets.Goals as goal

pub returns-clause-one : goal.returns-clause-one
returns-clause-one c = name-value c.self.invariant.0 _ c.self.invariant.1
