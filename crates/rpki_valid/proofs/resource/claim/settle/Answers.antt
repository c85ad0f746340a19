use Rattle.std.proofs.Common.{Some, inr}
use Rattle.rpki_valid.specs.declared.resource.set.ResourceSet.{ResourceSet}
use Rattle.rpki_valid.specs.ResourceSet.{HasResources}
use Rattle.rpki_valid.proofs.ResourceSetLaws.{settled-alone}
use Rattle.rpki_valid.proofs.resource.claim.settle.Goals as goal

pub returns-in-Err : goal.returns-in-Err
returns-in-Err c = absurd (c.in-Err.ensures.0 (Some c.requires.policy.0) c.requires.policy.1)

pub returns-in-Err-Overclaim : goal.returns-in-Err-Overclaim
returns-in-Err-Overclaim c =
    let said = rw c.in-Ok-Some.field-0-is at c.in-Ok-Some.ensures in
    let none = rw c.in-Err-Overclaim.field-0-is at c.in-Err-Overclaim.ensures.refused in
    inr (
      λ (x : ResourceSet) (h : HasResources c.args.cert.now.extensions c.args.issuer.now x).
          none x (settled-alone c.args.cert.now.extensions c.in-Ok-Some.policy c.in-Ok.claim said
          c.in-Ok.ensures.claimed c.args.issuer.now x h),
      c.unverified-in-Err-Overclaim.ensures,
    )
