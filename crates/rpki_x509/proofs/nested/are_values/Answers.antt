use Rattle.std.proofs.Common.{refl}
use Rattle.std.proofs.lemmas.Bool.{false≢true}
use Rattle.rpki_x509.proofs.NestedLaws.{any-shorter, list-before, list-behind, list-end, list-none, nested-refuses}
use Rattle.rpki_x509.proofs.nested.are_values.Goals as goal

pub values-smaller : goal.values-smaller
values-smaller c = let h = rw c.in-Ok-Some.field-0-is at c.in-Ok-Some.ensures in any-shorter _ _ h.1

pub values-preserved : goal.values-preserved
values-preserved c =
    let a = rw c.in-Ok-Some.field-0-is at c.in-Ok-Some.ensures in (
      λ h. c.values.invariant.0 (list-before _ _ a.1 h),
      λ h. list-behind _ _ a.1 (c.values.invariant.1 h),
    )

pub returns-in-Ok-None : goal.returns-in-Ok-None
returns-in-Ok-None c =
    let end = rw c.in-Ok-None.field-0-is at c.in-Ok-None.ensures in
    (λ z. c.values.invariant.0 (list-end _ end.0), λ h. refl)

pub returns-in-Err : goal.returns-in-Err
returns-in-Err c = (
  λ z. absurd (false≢true z),
  λ h. absurd (list-none _ c.in-Err.ensures.0 (nested-refuses _ _ c.in-Err.field-0 c.in-Err.ensures.1)
      (c.values.invariant.1 h)),
)
