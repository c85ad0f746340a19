use Rattle.std.proofs.Common.{arith}
use Rattle.rpki_resources.proofs.BlocksLaws.{empty}
use Rattle.rpki_resources.proofs.MergeLaws.{at-start, first-done, second-done, all-shared, all-shared-other, if-error}
use Rattle.rpki_resources.proofs.MergeLaws.{some-shared}
use Rattle.rpki_resources.proofs.merge.shared.Goals as goal

pub pairs-init : goal.pairs-init
pairs-init c = rw c.new-found.ensures.items (at-start c.args.one.now c.args.other.now c.requires.one c.requires.other)

pub pairs-preserved-then-x-y : goal.pairs-preserved-then-x-y
pairs-preserved-then-x-y c =
    first-done c.args.one.now c.args.other.now c.pairs.found.items _ c.pairs.xs.now c.pairs.ys.now c.in-Some.later.now
    c.in-Some-split_first.others.now c.in-Some.x.now c.in-Some-split_first.y.now c.overlap.result
    c.in-Some.ensures.cases.0 c.in-Some-split_first.ensures.cases.0 c.in_ok-push_some-in-Some-split_first.ensures.pushed
    c.pairs.invariant c.overlap.ensures (omega (arith, c.if-x-y.true))

pub pairs-preserved : goal.pairs-preserved
pairs-preserved c =
    second-done c.args.one.now c.args.other.now c.pairs.found.items _ c.pairs.xs.now c.pairs.ys.now c.in-Some.later.now
    c.in-Some-split_first.others.now c.in-Some.x.now c.in-Some-split_first.y.now c.overlap.result
    c.in-Some.ensures.cases.0 c.in-Some-split_first.ensures.cases.0 c.in_ok-push_some-in-Some-split_first.ensures.pushed
    c.pairs.invariant c.overlap.ensures (omega (arith, c.if-x-y.false))

pub returns-in-None-clause-shared : goal.returns-in-None-clause-shared
returns-in-None-clause-shared c = all-shared-other c.args.one.now c.args.other.now c.pairs.found.items c.pairs.xs.now
    c.pairs.ys.now c.pairs.invariant (empty _ c.in-None.ensures.cases)

pub returns-clause-shared : goal.returns-clause-shared
returns-clause-shared c = all-shared c.args.one.now c.args.other.now c.pairs.found.items c.pairs.xs.now c.pairs.ys.now
    c.pairs.invariant (empty _ c.in_default.ensures.cases)

pub returns-in_err-push_some-in-Some-split_first-clause-memory : goal.returns-in_err-push_some-in-Some-split_first-clause-memory
returns-in_err-push_some-in-Some-split_first-clause-memory c =
    if-error c.from_residual.result (some-shared c.args.one.now c.args.other.now c.pairs.found.items c.pairs.xs.now
    c.pairs.ys.now _ _ _ _
    c.overlap.result c.in-Some.ensures.cases.0 c.in-Some-split_first.ensures.cases.0 c.pairs.invariant c.overlap.ensures
    c.in_err-push_some-in-Some-split_first.ensures.memory)
