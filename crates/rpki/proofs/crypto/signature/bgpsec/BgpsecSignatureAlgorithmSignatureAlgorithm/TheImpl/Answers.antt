use Rattle.rpki.specs.Oids.{ecdsa_with_sha256}
use Rattle.rpki.specs.SignatureNames.{SpellsBare}
use Rattle.rpki.proofs.AlgorithmFaultLaws.{bare-exactly}
use Rattle.rpki.proofs.crypto.signature.bgpsec.BgpsecSignatureAlgorithmSignatureAlgorithm.TheImpl.Goals as goal

pub x509_take_from-tells : goal.x509_take_from-tells
x509_take_from-tells c = bare-exactly (λ a. a) (SpellsBare ecdsa_with_sha256) ecdsa_with_sha256 _ _ _ c.ensures
