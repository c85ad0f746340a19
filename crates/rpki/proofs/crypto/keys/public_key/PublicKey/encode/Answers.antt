use Rattle.rpki.proofs.PublicKeyLaws.{key-same}
use Rattle.rpki.proofs.crypto.keys.public_key.PublicKey.encode.Goals as goal

pub returns-clause-same : goal.returns-clause-same
returns-clause-same c = λ other short short'. key-same c.args.self other short short'
