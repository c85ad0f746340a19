use Rattle.std.proofs.Common.{[], ◌∷◌}
use Rattle.rpki.specs.Prelude.{SpellsBare}
use Rattle.rpki.proofs.AlgorithmFaultLaws.{bare-exactly}
use Rattle.rpki_examples.proofs.own_algorithm.OwnAlgorithmSignatureAlgorithm.TheImpl.Goals as goal

pub x509_take_from-tells : goal.x509_take_from-tells
x509_take_from-tells c = bare-exactly (λ a. a) (SpellsBare (136 ∷ 55 ∷ [])) (136 ∷ 55 ∷ []) _ _ _ c.ensures
