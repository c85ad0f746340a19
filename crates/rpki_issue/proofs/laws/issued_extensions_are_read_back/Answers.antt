use Rattle.rpki_issue.proofs.PartsLaws.{all-read}
use Rattle.rpki_issue.proofs.laws.issued_extensions_are_read_back.Goals as goal

pub returns : goal.returns
returns c = λ e keys uris can. all-read e keys uris can
