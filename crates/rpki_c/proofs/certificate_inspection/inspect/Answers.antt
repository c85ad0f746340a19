use Rattle.std.proofs.Common.{inl, inr, refl}
use Rattle.rpki_c.proofs.certificate_inspection.inspect.Goals as goal

pub returns-in-Ok-test : goal.returns-in-Ok-test
returns-in-Ok-test c =
    let (x, h) = c.in-Ok.ensures.ok in
    inl (refl, record { cert = x; spelled = h.spelled; has = c.in-Ok-test.ensures c.args.octets.now x h })

pub returns-in-Err-test : goal.returns-in-Err-test
returns-in-Err-test c =
    let (x, h) = c.in-Ok.ensures.ok in
    let broken = c.in-Err-test.ensures c.args.octets.now x h in
    inr (inl (
      c.in-Err-test.rule,
      c.cert_rule_number.ensures,
      record { cert = x; spelled = h.spelled; first = broken.0; other = broken.1 },
    ))
