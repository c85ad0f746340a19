use Rattle.rpki_der.specs.Cursor.{left}
use Rattle.rpki_der.proofs.EndLaws.{end-of}
use Rattle.rpki_der.proofs.cursor.Constructed.stands_before.Goals as goal

pub returns-else-is_end : goal.returns-else-is_end
unfolding left
returns-else-is_end c = (
  λ yes. let never : ⊥ = cc in absurd never,
  λ h. c.is_end.ensures.1 (end-of c.args.self.now.rest.now c.args.part.now c.args.after.now.rest.now h),
)
