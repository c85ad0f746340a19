use Rattle.rpki_payloads.specs.Made.{json_metadata}
use Rattle.rpki_payloads.proofs.MetricLaws.{then-three}
use Rattle.rpki_payloads.proofs.made.push_metadata.Goals as goal

pub returns : goal.returns
unfolding json_metadata
returns c =
    then-three _ _ _ _ _ _ _ c.in_ok-push_dates.ensures c.in_ok-push_counts.ensures
    c.in_ok-extend_from_slice.ensures.items
