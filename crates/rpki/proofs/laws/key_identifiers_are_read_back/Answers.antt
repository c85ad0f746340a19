use Rattle.rpki.proofs.KeyIdentifierLaws.{identifier-spelled, identifier-same}
use Rattle.rpki.proofs.laws.key_identifiers_are_read_back.Goals as goal

pub returns-clause-read_back : goal.returns-clause-read_back
returns-clause-read_back c = identifier-spelled c.args.identifier.now c.as_slice.ensures.size

pub returns-clause-same : goal.returns-clause-same
returns-clause-same c = λ other size. identifier-same c.args.identifier.now other c.as_slice.ensures.size size
