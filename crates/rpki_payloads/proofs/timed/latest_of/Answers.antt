use Rattle.rpki_payloads.proofs.OrderLaws.{set-as}
use Rattle.rpki_payloads.proofs.TimedLaws.{same-latest}
use Rattle.rpki_payloads.proofs.timed.latest_of.Goals as goal

pub last_of_each-requires : goal.last_of_each-requires
last_of_each-requires c = rw c.as_slice.ensures.value c.sort_timed.ensures.order

pub returns : goal.returns
returns c =
    set-as _ _ _ _ (λ t. let same = same-latest _ _ c.sort_timed.ensures.each t in (
      λ h. same.0 (rw c.as_slice.ensures.value at (c.in_ok-latest.ensures t).0 h),
      λ h. (c.in_ok-latest.ensures t).1 (rw c.as_slice.ensures.value (same.1 h)),
    )) c.sort_timed-2.ensures
