use Rattle.std.proofs.Common.{inl, refl, ◌∙◌, ap}
use Rattle.rpki_c.specs.CertificateProfile.{profile_number}
use Rattle.rpki_c.proofs.certificate_kind.rpki_certificate_kind.Goals as goal

pub returns : goal.returns
returns c =
    let (x, h) = c.in-Ok.ensures in
    let purposes = c.has-purposes.ensures c.args.octets.now x h.cert in
    let access = c.has-access.ensures c.args.octets.now x h.cert in
    inl (
      refl,
      record {
        x = x;
        known = c.in-Ok.found.known;
        read = record { spelled = h.cert.spelled; says = h.says };
        self_issued = c.is_self_issued-self_issued.result;
        issued = c.is_self_issued-self_issued.ensures c.args.octets.now x h.cert;
        is = c.profile_number.ensures ∙ ap profile_number (rw (purposes, access) at c.profile_by.ensures);
      },
    )
