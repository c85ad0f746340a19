use Rattle.rpki_der.proofs.InsideLaws.{unless-memory}
use Rattle.rpki_request.proofs.extensions.are_constraints.Goals as goal

pub returns-in-Err : goal.returns-in-Err
returns-in-Err c = (
  λ t. absurd (cc),
  λ h. absurd (unless-memory c.in-Err.field-0 c.in-Err.ensures.1.other c.in-Err.ensures.0 tt h),
)
