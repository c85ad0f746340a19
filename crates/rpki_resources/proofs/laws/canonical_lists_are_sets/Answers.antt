use Rattle.rpki_resources.proofs.BlocksLaws.{one-list}
use Rattle.rpki_resources.proofs.laws.canonical_lists_are_sets.Goals as goal

pub returns : goal.returns
returns c = one-list
