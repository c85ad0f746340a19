use Rattle.rpki.specs.Oids.{sha256_with_rsa_encryption}
use Rattle.rpki.specs.Algorithm.{SpellsAlgorithm}
use Rattle.rpki.proofs.AlgorithmFaultLaws.{algorithm-exactly}
use Rattle.rpki.proofs.crypto.signature.RpkiSignatureAlgorithmSignatureAlgorithm.TheImpl.Goals as goal

pub x509_take_from-tells : goal.x509_take_from-tells
x509_take_from-tells c =
    algorithm-exactly (λ a. a) (SpellsAlgorithm sha256_with_rsa_encryption) sha256_with_rsa_encryption _ _ _ c.ensures
