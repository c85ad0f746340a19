use Rattle.std.proofs.Common.{lit<}
use Rattle.rpki.specs.Oids.{ecdsa_with_sha256}
use Rattle.rpki.specs.BareOctetsLaws.{bare-short}
use Rattle.rpki.proofs.crypto.signature.bgpsec.BgpsecSignatureAlgorithmSignatureAlgorithm.x509_encode.Goals as goal

pub returns-clause-short : goal.returns-clause-short
returns-clause-short c = λ known. rw c.new.ensures
    (c.encode.ensures.short.1 (lit< tt), rw c.encode.ensures.encoded (bare-short ecdsa_with_sha256 (lit< tt)))
