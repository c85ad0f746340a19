use Rattle.rpki_payloads.specs.Metrics.{reason_samples}
use Rattle.rpki_payloads.proofs.MetricLaws.{then-two}
use Rattle.rpki_payloads.proofs.metrics.push_reasons.Goals as goal

pub returns : goal.returns
unfolding reason_samples
returns c =
    then-two _ _ _ _ _ c.in_ok-push_file_reasons.ensures c.in_ok-push_path_reasons.ensures
