use Rattle.std.proofs.Common.{inl, inr}
use Rattle.rpkivalid.proofs.question.origin_of.Goals as goal

pub returns-in_default-clause-denied : goal.returns-in_default-clause-denied
returns-in_default-clause-denied c = inl c.in_default.ensures.value

pub returns-in_default-parse-clause-denied : goal.returns-in_default-parse-clause-denied
returns-in_default-parse-clause-denied c = inr c.in_default-parse.ensures.value
