use Rattle.rpki_payloads.specs.Metrics.{locator_families}
use Rattle.rpki_payloads.proofs.MetricLaws.{then-four}
use Rattle.rpki_payloads.proofs.metrics.push_locator_families.Goals as goal

pub returns : goal.returns
unfolding locator_families
returns c =
    then-four _ _ _ _ _ _ _ _ _ c.in_ok-push_anchor_family.ensures c.in_ok-push_payload_family.ensures
    c.in_ok-push_rejection_families.ensures c.in_ok-push_end_family.ensures
