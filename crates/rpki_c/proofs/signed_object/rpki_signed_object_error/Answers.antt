use Rattle.std.proofs.Common.{inl, refl}
use Rattle.rpki_c.proofs.signed_object.rpki_signed_object_error.Goals as goal

pub returns-in-Ok : goal.returns-in-Ok
returns-in-Ok c =
    let (x, h) = c.in-Ok.ensures.ok in
    inl (refl, (x, h.spelled), refl)
