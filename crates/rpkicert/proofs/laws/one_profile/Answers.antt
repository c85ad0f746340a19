use Rattle.rpkicert.proofs.ChosenLaws.{one-chosen}
use Rattle.rpkicert.proofs.laws.one_profile.Goals as goal

pub returns : goal.returns
returns c = one-chosen
