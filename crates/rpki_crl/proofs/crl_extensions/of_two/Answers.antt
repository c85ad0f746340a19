use Rattle.std.proofs.Common.{rules}
use Rattle.rpki_crl.proofs.ExtensionsLaws.{some-weaker, none-weaker, in-order, turned}
use Rattle.rpki_crl.proofs.crl_extensions.of_two.Goals as goal

pub returns-then-eq-clause-only : goal.returns-then-eq-clause-only
returns-then-eq-clause-only c =
    some-weaker c.both_of.result
    (λ k f v h.
    let parts = in-order c.args.first.now c.args.second.now v (search rules) h in
    f v parts.0 parts.1)
    c.both_of.ensures.only

pub returns-then-eq-clause-none : goal.returns-then-eq-clause-none
returns-then-eq-clause-none c =
    none-weaker c.both_of.result
    (λ f v h.
    let parts = in-order c.args.first.now c.args.second.now v (search rules) h in
    f v parts.0 parts.1)
    c.both_of.ensures.none

pub returns-clause-only : goal.returns-clause-only
returns-clause-only c =
    some-weaker c.both_of-2.result
    (λ k f v h.
    let parts = turned c.args.first.now c.args.second.now v (λ e. search rules) h in
    f v parts.0 parts.1)
    c.both_of-2.ensures.only

pub returns-clause-none : goal.returns-clause-none
returns-clause-none c =
    none-weaker c.both_of-2.result
    (λ f v h.
    let parts = turned c.args.first.now c.args.second.now v (λ e. search rules) h in
    f v parts.0 parts.1)
    c.both_of-2.ensures.none
