use Rattle.rpki_payloads.specs.Metrics.{kind_samples}
use Rattle.rpki_payloads.proofs.MetricLaws.{then-three}
use Rattle.rpki_payloads.proofs.metrics.push_kinds.Goals as goal

pub returns : goal.returns
unfolding kind_samples
returns c =
    then-three _ _ _ _ _ _ _ c.in_ok-push_sample.ensures c.in_ok-push_sample-2.ensures c.in_ok-push_sample-3.ensures
