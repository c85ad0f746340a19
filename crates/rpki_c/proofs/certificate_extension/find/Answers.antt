use Rattle.std.proofs.Common.{inl, refl}
use Rattle.rpki_c.proofs.certificate_extension.find.Goals as goal

pub returns-in-Ok : goal.returns-in-Ok
returns-in-Ok c =
    let (x, h) = c.in-Ok.ensures.ok in
    inl (refl, record { cert = x; spelled = h.spelled; found = c.extension_of.ensures c.args.octets.now x h })
