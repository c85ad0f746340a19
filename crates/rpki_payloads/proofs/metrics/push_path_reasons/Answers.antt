use Rattle.rpki_payloads.specs.Metrics.{path_samples}
use Rattle.rpki_payloads.proofs.MetricLaws.{then-four}
use Rattle.rpki_payloads.proofs.metrics.push_path_reasons.Goals as goal

pub returns : goal.returns
unfolding path_samples
returns c =
    then-four _ _ _ _ _ _ _ _ _ c.in_ok-push_reason.ensures c.in_ok-push_reason-2.ensures c.in_ok-push_reason-3.ensures
    c.in_ok-push_reason-4.ensures
