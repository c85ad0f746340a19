use Rattle.std.proofs.Common.{List, ℕ, inl, inr, refl, subst, sym}
use Rattle.rpki_cert.specs.declared.profile.Profile.TheVariants.{Ee}
use Rattle.rpki_cert.specs.Cert.{SpellsCert}
use Rattle.rpki_c.specs.CertificateProfile.{HasAll}
use Rattle.rpki_c.proofs.CertificateLaws.{refused-as}
use Rattle.rpki_c.proofs.object_of_profile.rpki_signed_object_of_profile.Goals as goal

pub parts_of-requires : goal.parts_of-requires
parts_of-requires c =
    let (x, at) = c.in-Ok.ensures.ok in
    let same = sym at.parts.cert.octets in
    (x.cert, rw same at at.parts.cert_parts)

pub extensions_of-requires : goal.extensions_of-requires
extensions_of-requires c =
    let (x, at) = c.in-Ok.ensures.ok in
    let same = sym at.parts.cert.octets in
    (x.cert, rw same at at.parts.cert_parts, (c.in-Ok-check.ensures.ok _ x.cert at.parts.cert_parts).0)

pub returns-in-Ok-check : goal.returns-in-Ok-check
returns-in-Ok-check c =
    let (x, at) = c.in-Ok.ensures.ok in
    let h = at.parts.cert_parts in
    let spelled = subst (SpellsCert x.cert) (sym at.parts.cert.octets) h.spelled in
    let all : HasAll c.in-Ok.found.cert.octets.octets.now Ee c.args.names c.parts_of.result c.extensions_of.result =
    record {
      profiled = record { cert = x.cert; spelled = spelled; has = (c.in-Ok-check.ensures.ok _ x.cert h).1 };
      divided = c.parts_of.ensures;
      extended = c.extensions_of.ensures;
    } in
    inl (
      refl,
      record {
        object = c.object_of.ensures.object;
        certificate =
            subst (λ (s : List ℕ). HasAll s Ee c.args.names c.parts_of.result c.extensions_of.result)
            (sym c.object_of.ensures.certificate) all;
      },
    )

pub returns-in-Err-check : goal.returns-in-Err-check
returns-in-Err-check c =
    let (x, at) = c.in-Ok.ensures.ok in
    let h = at.parts.cert_parts in
    inr (
      inr (
        x,
        at.spelled,
        refused-as x.cert h.spelled c.in-Err-check.error (c.in-Err-check.ensures.err _ x.cert h)
            c.check_number.ensures,
      ),
      refl,
    )
