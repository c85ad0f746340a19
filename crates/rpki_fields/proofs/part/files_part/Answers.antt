use Rattle.std.proofs.Common.{inl, inr, refl}
use Rattle.rpki_fields.proofs.part.files_part.Goals as goal

pub returns-in-Ok : goal.returns-in-Ok
returns-in-Ok c = inr ((c.in-Ok.field-0, c.in-Ok.ensures.ok.0, c.in-Ok.ensures.ok.1), refl)

pub returns-in-Err : goal.returns-in-Err
returns-in-Err c = let q = c.in-Err.wrong in inl (q.part, (q.error, c.in-Err.ensures.err), refl)
