use Rattle.std.proofs.Common.{lit<}
use Rattle.rpki.specs.Oids.{sha256}
use Rattle.rpki.specs.BareOctetsLaws.{bare-short}
use Rattle.rpki.proofs.DigestLaws.{digest-spelled}
use Rattle.rpki.proofs.crypto.digest.DigestAlgorithm.encode.Goals as goal

pub returns-clause-short : goal.returns-clause-short
returns-clause-short c =
    rw c.new.ensures (c.encode.ensures.short.1 (lit< tt), rw c.encode.ensures.encoded (bare-short sha256 (lit< tt)))

pub returns-clause-read_back : goal.returns-clause-read_back
returns-clause-read_back c = digest-spelled
