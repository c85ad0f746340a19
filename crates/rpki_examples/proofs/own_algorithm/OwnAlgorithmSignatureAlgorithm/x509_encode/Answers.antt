use Rattle.std.proofs.Common.{lit<, [], ◌∷◌}
use Rattle.rpki.specs.Prelude.{bare-short}
use Rattle.rpki_examples.proofs.own_algorithm.OwnAlgorithmSignatureAlgorithm.x509_encode.Goals as goal

pub returns-clause-short : goal.returns-clause-short
returns-clause-short c = rw c.new.ensures
    (λ _. (c.encode.ensures.short.1 (lit< tt), rw c.encode.ensures.encoded (bare-short (136 ∷ 55 ∷ []) (lit< tt))))
