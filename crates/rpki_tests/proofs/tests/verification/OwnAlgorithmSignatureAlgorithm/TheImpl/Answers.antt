use Rattle.std.proofs.Common.{[], ◌∷◌}
use Rattle.rpki.specs.SignatureNames.{SpellsBare}
use Rattle.rpki.proofs.AlgorithmFaultLaws.{bare-exactly}
use Rattle.rpki_tests.proofs.tests.verification.OwnAlgorithmSignatureAlgorithm.TheImpl.Goals as goal

pub x509_take_from-tells : goal.x509_take_from-tells
x509_take_from-tells c = bare-exactly (λ a. a) (SpellsBare (42 ∷ 3 ∷ [])) (42 ∷ 3 ∷ []) _ _ _ c.ensures
