use Rattle.rpki_resources.proofs.UnreadLaws.{ip-within}
use Rattle.rpki_resources.proofs.compared.ip_resources_encompass.Goals as goal

pub returns-in_default-clause-none : goal.returns-in_default-clause-none
returns-in_default-clause-none c = λ o i a b. absurd (c.in_default.ensures.none o a)

pub returns-in_default-find_ip-clause-none : goal.returns-in_default-find_ip-clause-none
returns-in_default-find_ip-clause-none c = λ o i a b. absurd (c.in_default-find_ip.ensures.none i b)

pub returns-then-v4-clause-some : goal.returns-then-v4-clause-some
returns-then-v4-clause-some c =
    ip-within c.args.outer.now c.args.inner.now c.in-Some.issuer c.in-Some-find_ip.subject c.in-Some.ensures.some
    c.in-Some-find_ip.ensures.some c.in-Some-is_within.v4 c.in-Some-is_within-2.v6 _
    (λ z. (c.if-v4.true, z), λ z. z.1) c.in-Some-is_within.ensures.some c.in-Some-is_within-2.ensures.some

pub returns-else-v4-clause-some : goal.returns-else-v4-clause-some
returns-else-v4-clause-some c =
    ip-within c.args.outer.now c.args.inner.now c.in-Some.issuer c.in-Some-find_ip.subject c.in-Some.ensures.some
    c.in-Some-find_ip.ensures.some c.in-Some-is_within.v4 c.in-Some-is_within-2.v6 _
    (λ z. let f = c.if-v4.false in let wrong : ⊥ = cc in absurd wrong, λ z. z.0) c.in-Some-is_within.ensures.some
    c.in-Some-is_within-2.ensures.some
