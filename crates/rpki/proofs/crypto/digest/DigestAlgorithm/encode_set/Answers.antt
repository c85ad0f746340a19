use Rattle.rpki.proofs.DigestLaws.{digest-short, digest-set-spelled}
use Rattle.rpki.proofs.crypto.digest.DigestAlgorithm.encode_set.Goals as goal

pub returns-clause-short : goal.returns-clause-short
returns-clause-short c = rw c.new.ensures (c.encode.ensures.short, rw c.encode.ensures.octets digest-short)

pub returns-clause-read_back : goal.returns-clause-read_back
returns-clause-read_back c = digest-set-spelled
