use Rattle.std.proofs.Common.{lit<, [], ◌∷◌}
use Rattle.rpki.specs.BareOctetsLaws.{bare-short}
use Rattle.rpki_tests.proofs.tests.verification.OwnAlgorithmSignatureAlgorithm.x509_encode.Goals as goal

pub returns-clause-short : goal.returns-clause-short
returns-clause-short c = rw c.new.ensures (
  c.encode.ensures.short.1 (lit< tt),
  rw c.encode.ensures.encoded (bare-short (42 ∷ 3 ∷ []) (lit< tt)),
)
