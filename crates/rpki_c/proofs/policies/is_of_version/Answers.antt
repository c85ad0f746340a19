use Rattle.rpki_c.proofs.PolicyLaws.{first-says, second-says}
use Rattle.rpki_c.proofs.policies.is_of_version.Goals as goal

pub returns-then-not-has : goal.returns-then-not-has
returns-then-not-has c = λ s x h.
    rw c.in-Refuse.is
    (second-says c.has.result c.has-then-not-has.result _ _ (c.has.ensures s x h)
    (c.has-then-not-has.ensures s x h) c.if-not-has.true)

pub returns-else-not-has : goal.returns-else-not-has
returns-else-not-has c = λ s x h.
    rw c.in-Refuse.is (first-says c.has.result _ _ (c.has.ensures s x h) c.if-not-has.false)

pub returns-then-not-has-2 : goal.returns-then-not-has-2
returns-then-not-has-2 c = λ s x h.
    rw c.in-Trim.is
    (second-says c.has-in-Trim.result c.has-then-not-has-2.result _ _ (c.has-in-Trim.ensures s x h)
    (c.has-then-not-has-2.ensures s x h) c.if-not-has-2.true)

pub returns-else-not-has-2 : goal.returns-else-not-has-2
returns-else-not-has-2 c = λ s x h.
    rw c.in-Trim.is (first-says c.has-in-Trim.result _ _ (c.has-in-Trim.ensures s x h) c.if-not-has-2.false)
