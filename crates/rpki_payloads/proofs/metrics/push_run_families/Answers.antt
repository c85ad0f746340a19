use Rattle.rpki_payloads.specs.Metrics.{run_families}
use Rattle.rpki_payloads.proofs.MetricLaws.{then-three}
use Rattle.rpki_payloads.proofs.metrics.push_run_families.Goals as goal

pub returns : goal.returns
unfolding run_families
returns c =
    then-three _ _ _ _ _ _ _ c.in_ok-push_version_family.ensures c.in_ok-push_made_family.ensures
    c.in_ok-push_duration_family.ensures
