use Rattle.rpki_payloads.specs.Metrics.{rejection_families}
use Rattle.rpki_payloads.proofs.MetricLaws.{then-two}
use Rattle.rpki_payloads.proofs.metrics.push_rejection_families.Goals as goal

pub returns : goal.returns
unfolding rejection_families
returns c =
    then-two _ _ _ _ _ c.in_ok-push_rejected_family.ensures c.in_ok-push_reason_family.ensures
