use Rattle.std.proofs.Common.{inl, inr, refl}
use Rattle.rpki_c.specs.CertificateProfile.IsRefusedAs.{WrongPart}
use Rattle.rpki_c.proofs.CertificateLaws.{refused-as}
use Rattle.rpki_c.proofs.certificate_of_profile.check.Goals as goal

pub extensions_of-requires : goal.extensions_of-requires
extensions_of-requires c =
    let (x, h) = c.in-Ok.ensures.ok in
    (x, h, (c.in-Ok-check.ensures.ok c.args.octets.now x h).0)

pub returns-in-Ok-check : goal.returns-in-Ok-check
returns-in-Ok-check c =
    let (x, h) = c.in-Ok.ensures.ok in
    inl (
      refl,
      record {
        profiled =
            record { cert = x; spelled = h.spelled; has = (c.in-Ok-check.ensures.ok c.args.octets.now x h).1 };
        divided = c.parts_of.ensures;
        extended = c.extensions_of.ensures;
      },
    )

pub returns-in-Err-check : goal.returns-in-Err-check
returns-in-Err-check c =
    let (x, h) = c.in-Ok.ensures.ok in
    let wrong = c.in-Err-check.ensures.err c.args.octets.now x h in
    inr (refused-as x h.spelled c.in-Err-check.error wrong c.check_number.ensures, refl, refl)

pub returns-in-Err : goal.returns-in-Err
returns-in-Err c =
    let q = c.in-Err.wrong in
    inr (WrongPart q.part c.part_number.ensures (q.error, c.in-Err.ensures.err), refl, refl)
