use Rattle.rpkibasic.proofs.OneAnswerLaws.{one-text, text-or-fault, one-fault, one-uri-fault}
use Rattle.rpkibasic.proofs.laws.one_answer_is_due.Goals as goal

pub returns-clause-texts : goal.returns-clause-texts
returns-clause-texts c = one-text

pub returns-clause-apart : goal.returns-clause-apart
returns-clause-apart c = text-or-fault

pub returns-clause-faults : goal.returns-clause-faults
returns-clause-faults c = one-fault

pub returns-clause-uris : goal.returns-clause-uris
returns-clause-uris c = one-uri-fault
