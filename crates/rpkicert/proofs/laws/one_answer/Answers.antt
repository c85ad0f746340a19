use Rattle.rpkicert.proofs.OneAnswerLaws.{one-finding, one-seen, one-of-file}
use Rattle.rpkicert.proofs.laws.one_answer.Goals as goal

pub returns-clause-found : goal.returns-clause-found
returns-clause-found c = one-finding

pub returns-clause-seen : goal.returns-clause-seen
returns-clause-seen c = one-seen

pub returns-clause-file : goal.returns-clause-file
returns-clause-file c = one-of-file
