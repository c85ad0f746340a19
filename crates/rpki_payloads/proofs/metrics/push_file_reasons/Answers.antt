use Rattle.rpki_payloads.specs.Metrics.{file_samples}
use Rattle.rpki_payloads.proofs.MetricLaws.{then-three}
use Rattle.rpki_payloads.proofs.metrics.push_file_reasons.Goals as goal

pub returns : goal.returns
unfolding file_samples
returns c =
    then-three _ _ _ _ _ _ _ c.in_ok-push_reason.ensures c.in_ok-push_reason-2.ensures c.in_ok-push_reason-3.ensures
