use Rattle.rpki_resources.proofs.ListReadBackLaws.{as-list-read-back}
use Rattle.rpki_resources.proofs.laws.as_lists_are_read_back.Goals as goal

pub returns : goal.returns
returns c = as-list-read-back
