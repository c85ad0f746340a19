use Rattle.std.proofs.Common.{◌∙◌}
use Rattle.rpki_payloads.specs.Metrics.{made_family}
use Rattle.rpki_payloads.proofs.MetricLaws.{then-three}
use Rattle.rpki_payloads.proofs.metrics.push_made_family.Goals as goal

pub returns : goal.returns
unfolding made_family
returns c =
    let digits = c.as_bytes.ensures.value ∙ c.in_ok-seconds.ensures in
    then-three _ _ _ _ _ _ _ c.in_ok-extend_from_slice.ensures.items
    (rw digits at c.in_ok-extend_from_slice-2.ensures.items) c.in_ok-extend_from_slice-3.ensures.items
