use Rattle.std.proofs.Common.{◌∙◌}
use Rattle.rpki_payloads.specs.Metrics.{duration_family}
use Rattle.rpki_payloads.proofs.MetricLaws.{then-three}
use Rattle.rpki_payloads.proofs.metrics.push_duration_family.Goals as goal

pub returns : goal.returns
unfolding duration_family
returns c =
    let digits = c.as_bytes.ensures.value ∙ c.in_ok-digits.ensures in
    then-three _ _ _ _ _ _ _ c.in_ok-extend_from_slice.ensures.items
    (rw digits at c.in_ok-extend_from_slice-2.ensures.items) c.in_ok-extend_from_slice-3.ensures.items
