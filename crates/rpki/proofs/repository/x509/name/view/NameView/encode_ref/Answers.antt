use Rattle.rpki.proofs.OneNameLaws.{one-name}
use Rattle.rpki.proofs.repository.x509.name.view.NameView.encode_ref.Goals as goal

pub returns-clause-one_reading : goal.returns-clause-one_reading
returns-clause-one_reading c = one-name c.new.result
