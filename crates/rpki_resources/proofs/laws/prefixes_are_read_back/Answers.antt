use Rattle.rpki_resources.proofs.IpReadLaws.{prefix-read-back}
use Rattle.rpki_resources.proofs.laws.prefixes_are_read_back.Goals as goal

pub returns : goal.returns
returns c = λ p h. prefix-read-back p h.address h.few h.zeros
