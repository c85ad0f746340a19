use Rattle.rpki_payloads.specs.Metrics.{reason_family}
use Rattle.rpki_payloads.proofs.MetricLaws.{then-two}
use Rattle.rpki_payloads.proofs.metrics.push_reason_family.Goals as goal

pub returns : goal.returns
unfolding reason_family
returns c =
    then-two _ _ _ _ _ c.in_ok-extend_from_slice.ensures.items c.in_ok-push_all_counted.ensures
