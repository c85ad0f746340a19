use Rattle.std.proofs.Common.{inl, refl}
use Rattle.rpki_fields.proofs.object.certificate.Goals as goal

pub returns-in-Ok : goal.returns-in-Ok
returns-in-Ok c = inl (c.in-Ok.cert, c.in-Ok.ensures, refl)

pub other_certificate-requires : goal.other_certificate-requires
other_certificate-requires c = rw c.as_slice.ensures c.in-Err.ensures
