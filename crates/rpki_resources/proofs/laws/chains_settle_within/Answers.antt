use Rattle.rpki_resources.proofs.SettledLaws.{down-within}
use Rattle.rpki_resources.proofs.laws.chains_settle_within.Goals as goal

pub returns : goal.returns
returns c = down-within
