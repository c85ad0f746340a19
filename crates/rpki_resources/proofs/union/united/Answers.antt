use Rattle.rpki_resources.proofs.UnionLaws.{united-start, may-grow, united-step, all-united, some-united}
use Rattle.rpki_resources.proofs.MergeLaws.{if-error}
use Rattle.rpki_resources.proofs.union.united.Goals as goal

pub pairs-init : goal.pairs-init
pairs-init c =
    united-start c.args.one.now c.args.other.now c.in-Some.first.xs.now c.in-Some.first.ys.now _ c.in-Some.first.block
    c.requires.one c.requires.other c.in-Some.ensures.some c.new-found.ensures.items

pub grow-grown-requires : goal.grow-grown-requires
grow-grown-requires c =
    may-grow c.args.one.now c.args.other.now c.pairs.found.items c.pairs.xs.now c.pairs.ys.now c.pairs.last
    c.pairs.invariant c.in-Some-take_first.following.block _ _ c.in-Some-take_first.ensures.some

pub pairs-preserved : goal.pairs-preserved
pairs-preserved c =
    united-step c.args.one.now c.args.other.now c.pairs.found.items c.pairs.xs.now c.pairs.ys.now c.pairs.last
    c.pairs.invariant c.in-Some-take_first.following.block
    c.in-Some-take_first.following.xs.now c.in-Some-take_first.following.ys.now c.in-Some-take_first.ensures.some
    c.grow-grown.result.closed c.grow-grown.result.last _ c.in_ok-push_some.ensures.pushed c.grow-grown.ensures

pub returns-clause-united : goal.returns-clause-united
returns-clause-united c =
    let end = c.in_default-take_first.ensures.none in
    all-united c.args.one.now c.args.other.now c.pairs.found.items c.pairs.xs.now c.pairs.ys.now c.pairs.last
    c.pairs.invariant _ c.in_ok-push.ensures.items end.0 end.1

pub returns-in_err-push_some-clause-memory : goal.returns-in_err-push_some-clause-memory
returns-in_err-push_some-clause-memory c =
    if-error _ (some-united c.args.one.now c.args.other.now c.pairs.found.items c.pairs.xs.now c.pairs.ys.now
    c.pairs.last c.pairs.invariant)

pub returns-in_err-push-clause-memory : goal.returns-in_err-push-clause-memory
returns-in_err-push-clause-memory c =
    if-error _ (some-united c.args.one.now c.args.other.now c.pairs.found.items c.pairs.xs.now c.pairs.ys.now
    c.pairs.last c.pairs.invariant)
