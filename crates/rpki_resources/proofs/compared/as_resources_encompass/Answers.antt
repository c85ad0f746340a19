use Rattle.rpki_resources.proofs.UnreadLaws.{if-some, as-within}
use Rattle.rpki_resources.proofs.compared.as_resources_encompass.Goals as goal

pub returns-in_default-clause-none : goal.returns-in_default-clause-none
returns-in_default-clause-none c = λ o i a b. absurd (c.in_default.ensures.none o a)

pub returns-in_default-find_as-clause-none : goal.returns-in_default-find_as-clause-none
returns-in_default-find_as-clause-none c = λ o i a b. absurd (c.in_default-find_as.ensures.none i b)

pub returns-clause-some : goal.returns-clause-some
returns-clause-some c =
    if-some c.is_within.result
    (as-within c.args.outer.now c.args.inner.now c.in-Some.issuer c.in-Some-find_as.subject c.in-Some.ensures.some
    c.in-Some-find_as.ensures.some)
    c.is_within.ensures.some
