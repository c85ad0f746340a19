use Rattle.std.proofs.Common.{inl, inr, refl}
use Rattle.rpki_c.proofs.issued.rpki_certificate_issued_by.Goals as goal

pub returns-in-Ok : goal.returns-in-Ok
returns-in-Ok c = let (x, y, h) = c.in-Ok.ensures in inl (refl, x, y, c.in-Ok.field-0.subject.known, h.by)

pub returns-in-Err : goal.returns-in-Err
returns-in-Err c = inr c.in-Err.ensures
