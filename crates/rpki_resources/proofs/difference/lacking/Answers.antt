use Rattle.rpki_resources.proofs.BlocksLaws.{empty}
use Rattle.rpki_resources.proofs.DifferenceLaws.{at-start, extended, block-done, other-done, all-lacking, done-behind}
use Rattle.rpki_resources.proofs.DifferenceLaws.{done-none, some-lacking}
use Rattle.rpki_resources.proofs.MergeLaws.{if-error}
use Rattle.rpki_resources.proofs.difference.lacking.Goals as goal

pub pairs-init : goal.pairs-init
pairs-init c = rw c.new-found.ensures.items (at-start c.args.one.now c.args.other.now c.requires.one c.requires.other)

pub pairs-preserved-then-y-x : goal.pairs-preserved-then-y-x
pairs-preserved-then-y-x c =
    extended c.args.one.now c.args.other.now c.pairs.found.items _ c.pairs.xs.now c.in-Some-split_first.others.now _
    c.gap.result c.in_ok-push_some.ensures.pushed
    (other-done c.args.one.now c.args.other.now c.pairs.found.items c.pairs.xs.now c.pairs.ys.now c.pairs.from
    c.pairs.invariant c.in-Some.x.now c.in-Some.later.now c.in-Some.ensures.cases.0 c.gap.result c.gap.ensures
    c.in-Some-split_first.y.now c.in-Some-split_first.others.now c.in-Some-split_first.ensures.cases.0 c.if-y-x.true)

pub pairs-preserved-else-y-x : goal.pairs-preserved-else-y-x
pairs-preserved-else-y-x c =
    extended c.args.one.now c.args.other.now c.pairs.found.items _ c.in-Some.later.now c.pairs.ys.now _ c.gap.result
    c.in_ok-push_some.ensures.pushed
    (block-done c.args.one.now c.args.other.now c.pairs.found.items c.pairs.xs.now c.pairs.ys.now c.pairs.from
    c.pairs.invariant c.in-Some.x.now c.in-Some.later.now c.in-Some.ensures.cases.0 c.gap.result c.gap.ensures
    (done-behind c.in-Some.x.now c.in-Some-split_first.y.now c.pairs.ys.now c.in-Some-split_first.others.now
    c.in-Some-split_first.ensures.cases.0 c.if-y-x.false))

pub pairs-preserved : goal.pairs-preserved
pairs-preserved c =
    extended c.args.one.now c.args.other.now c.pairs.found.items _ c.in-Some.later.now c.pairs.ys.now _ c.gap.result
    c.in_ok-push_some.ensures.pushed
    (block-done c.args.one.now c.args.other.now c.pairs.found.items c.pairs.xs.now c.pairs.ys.now c.pairs.from
    c.pairs.invariant c.in-Some.x.now c.in-Some.later.now c.in-Some.ensures.cases.0 c.gap.result c.gap.ensures
    (done-none c.in-Some.x.now c.pairs.ys.now (empty _ c.in-None.ensures.cases)))

pub returns-clause-lacking : goal.returns-clause-lacking
returns-clause-lacking c = all-lacking c.args.one.now c.args.other.now c.pairs.found.items c.pairs.xs.now c.pairs.ys.now
    c.pairs.from c.pairs.invariant (empty _ c.in_default.ensures.cases)

pub returns-in_err-push_some-clause-memory : goal.returns-in_err-push_some-clause-memory
returns-in_err-push_some-clause-memory c =
    if-error c.from_residual.result (some-lacking c.args.one.now c.args.other.now c.pairs.found.items c.pairs.xs.now
    c.pairs.ys.now c.pairs.from
    c.pairs.invariant c.in-Some.x.now c.in-Some.later.now c.in-Some.ensures.cases.0 c.gap.result c.gap.ensures
    c.in_err-push_some.ensures.memory)
