use Rattle.rpki_payloads.proofs.OrderLaws.{origins-from, origins-to, set-as}
use Rattle.rpki_payloads.proofs.order.vrps_of.Goals as goal

pub returns : goal.returns
returns c =
    set-as _ _ _ _ (λ v. (
      λ h. origins-from _ v (rw c.in_ok-vrps.ensures at h),
      λ h. rw c.in_ok-vrps.ensures (origins-to _ v h),
    )) c.sort_vrps.ensures
