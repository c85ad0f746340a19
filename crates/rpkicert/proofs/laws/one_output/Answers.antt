use Rattle.rpkicert.proofs.UnderLaws.{one-output-under}
use Rattle.rpkicert.proofs.laws.one_output.Goals as goal

pub returns : goal.returns
returns c = one-output-under
