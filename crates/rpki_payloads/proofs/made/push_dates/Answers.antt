use Rattle.rpki_payloads.specs.Made.{json_dates}
use Rattle.rpki_payloads.proofs.MetricLaws.{then-three}
use Rattle.rpki_payloads.proofs.made.push_dates.Goals as goal

pub returns : goal.returns
unfolding json_dates
returns c =
    then-three _ _ _ _ _ _ _ c.in_ok-push_second.ensures c.in_ok-push_moment.ensures c.in_ok-push_moment-2.ensures
