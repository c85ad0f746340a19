use Rattle.rpki_resources.proofs.ListReadBackLaws.{ip-list-read-back}
use Rattle.rpki_resources.proofs.laws.address_lists_are_read_back.Goals as goal

pub returns : goal.returns
returns c = λ family xs bs h. ip-list-read-back family xs bs h.whole h.numbers
