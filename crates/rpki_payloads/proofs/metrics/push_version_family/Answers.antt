use Rattle.rpki_payloads.specs.Metrics.{version_family}
use Rattle.rpki_payloads.proofs.MetricLaws.{then-four}
use Rattle.rpki_payloads.proofs.metrics.push_version_family.Goals as goal

pub returns : goal.returns
unfolding version_family
returns c =
    then-four _ _ _ _ _ _ _ _ _ c.in_ok-extend_from_slice.ensures.items c.in_ok-extend_from_slice-2.ensures.items
    c.in_ok-extend_from_slice-3.ensures.items c.in_ok-extend_from_slice-4.ensures.items
