use Rattle.std.proofs.Common.{inr}
use Rattle.rpki_c.proofs.CertificateLaws.{listed}
use Rattle.rpki_c.proofs.known_cert.known_cert.Goals as goal

pub returns-in-Ok-known : goal.returns-in-Ok-known
returns-in-Ok-known c =
    let (x, h) = c.in-Ok.ensures.ok in (
      x,
      record { cert = h; says = c.in-Ok-known.ensures.ok x.tbs.extensions (listed h) },
    )

pub returns-in-Err-known : goal.returns-in-Err-known
returns-in-Err-known c =
    let (x, h) = c.in-Ok.ensures.ok in
    let wrong = c.in-Err-known.ensures.err x.tbs.extensions (listed h) in
    inr (c.in-Err-known.part, x, c.known_number.ensures, h.spelled, wrong)
