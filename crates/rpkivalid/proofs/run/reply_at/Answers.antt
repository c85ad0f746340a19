use Rattle.rpkivalid.proofs.run.reply_at.Goals as goal

pub explained_at-requires-clause-question : goal.explained_at-requires-clause-question
explained_at-requires-clause-question g c = rw c.in-Some.is at c.in_ok-asked.ensures.some

pub answer_at-requires-clause-question : goal.answer_at-requires-clause-question
answer_at-requires-clause-question g c = rw c.in-None.is at c.in_ok-asked.ensures.some
