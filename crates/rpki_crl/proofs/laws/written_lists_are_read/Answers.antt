use Rattle.rpki_crl.proofs.ListReadLaws.{crl-read}
use Rattle.rpki_crl.proofs.laws.written_lists_are_read.Goals as goal

pub returns : goal.returns
returns c = crl-read
