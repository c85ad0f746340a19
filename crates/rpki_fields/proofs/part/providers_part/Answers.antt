use Rattle.std.proofs.Common.{inl, inr, refl, sym}
use Rattle.rpki_fields.proofs.part.providers_part.Goals as goal

pub returns-in-Ok : goal.returns-in-Ok
returns-in-Ok c = inr (_, sym c.in-Ok.ensures, refl)

pub returns-in-Err : goal.returns-in-Err
returns-in-Err c = inl (c.in-Err.wrong.part, _, sym c.in-Err.ensures, refl)
