use Rattle.std.proofs.Common.{inl, inr, refl}
use Rattle.rpki_fields.proofs.part.other_place.Goals as goal

pub returns-in-Ok : goal.returns-in-Ok
returns-in-Ok c = inr (c.in-Ok.field-0, c.in-Ok.ensures.ok.0, c.in-Ok.ensures.ok.1, refl)

pub returns-in-Err : goal.returns-in-Err
returns-in-Err c = inl (c.in-Err.wrong.part, (c.in-Err.wrong.error, c.in-Err.ensures.err), refl)
