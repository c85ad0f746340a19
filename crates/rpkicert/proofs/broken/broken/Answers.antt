use Rattle.rpkicert.proofs.BrokenLaws.{next-broken}
use Rattle.rpkicert.proofs.broken.broken.Goals as goal

pub rules-preserved : goal.rules-preserved
rules-preserved c =
    next-broken c.args.strict c.args.tbs.now c.args.rules.now c.rules.rule-index _ c.rules.all.items _ c.rules-test.true
    c.rules.invariant c.in_ok-add_broken.ensures
