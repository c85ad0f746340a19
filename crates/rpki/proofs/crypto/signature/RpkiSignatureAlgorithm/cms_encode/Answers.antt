use Rattle.std.proofs.Common.{true, lit<, inl}
use Rattle.rpki.specs.Oids.{rsa_encryption}
use Rattle.rpki.specs.AlgorithmOctetsLaws.{identified-short, algorithm-spelled}
use Rattle.rpki.proofs.crypto.signature.RpkiSignatureAlgorithm.cms_encode.Goals as goal

pub returns-clause-short : goal.returns-clause-short
returns-clause-short c =
    rw c.new.ensures (
      (c.encode-identifier.ensures.short.1 (lit< tt), c.encode-parameters.ensures.short.1 (lit< tt)),
      rw (c.encode-identifier.ensures.encoded, c.encode-parameters.ensures.encoded)
          (identified-short rsa_encryption true (lit< tt)),
    )

pub returns-clause-read_back : goal.returns-clause-read_back
returns-clause-read_back c =
    let h = algorithm-spelled rsa_encryption true (lit< tt) in
    record { contents = h.contents; value = h.value; spelled = inl h.spelled }
