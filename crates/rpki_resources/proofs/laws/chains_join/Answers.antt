use Rattle.rpki_resources.proofs.SettledLaws.{down-joins}
use Rattle.rpki_resources.proofs.laws.chains_join.Goals as goal

pub returns : goal.returns
returns c = down-joins
