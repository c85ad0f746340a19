use Rattle.rpki_payloads.proofs.MetricLaws.{then-three}
use Rattle.rpki_payloads.proofs.stayrtr.push_providers.Goals as goal

pub returns : goal.returns
returns c =
    then-three _ _ _ _ _ _ _ c.in_ok-push_array.ensures c.in_ok-push_array-2.ensures
    c.in_ok-extend_from_slice.ensures.items
