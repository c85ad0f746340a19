use Rattle.std.proofs.Common.{true, lit<}
use Rattle.rpki.specs.Oids.{sha256_with_rsa_encryption}
use Rattle.rpki.specs.AlgorithmOctetsLaws.{identified-short}
use Rattle.rpki.proofs.crypto.signature.RpkiSignatureAlgorithmSignatureAlgorithm.x509_encode.Goals as goal

pub returns-clause-short : goal.returns-clause-short
returns-clause-short c = λ known.
    rw c.new.ensures (
      (c.encode-identifier.ensures.short.1 (lit< tt), c.encode-parameters.ensures.short.1 (lit< tt)),
      rw (c.encode-identifier.ensures.encoded, c.encode-parameters.ensures.encoded)
          (identified-short sha256_with_rsa_encryption true (lit< tt)),
    )
