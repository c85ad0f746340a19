use Rattle.std.proofs.Common.{inl, inr, refl}
use Rattle.rpki_c.proofs.issued.read_issued.Goals as goal

pub returns-in-Err-read : goal.returns-in-Err-read
returns-in-Err-read c =
    let (x, h) = c.in-Ok.ensures in
    let q = c.in-Err-read.field-0 in
    inr (
      x,
      c.in-Ok.subject.known,
      record { spelled = h.cert.spelled; says = h.says },
      inl (refl, q.part, (q.error, c.in-Err-read.ensures.err)),
    )

pub returns-in-Ok-test_names : goal.returns-in-Ok-test_names
returns-in-Ok-test_names c =
    let (x, h) = c.in-Ok.ensures in
    let (y, k) = c.in-Ok-read.ensures.ok in (
      x,
      y,
      record {
        subject = h;
        issued = k;
        by = record {
          read = record { spelled = h.cert.spelled; says = h.says };
          spelled = k.spelled;
          named = c.in-Ok-test_names.ensures c.args.octets.now c.args.issuer.now x y h.cert k;
        };
      },
    )

pub returns-in-Err-test_names : goal.returns-in-Err-test_names
returns-in-Err-test_names c =
    let (x, h) = c.in-Ok.ensures in
    let (y, k) = c.in-Ok-read.ensures.ok in
    inr (
      x,
      c.in-Ok.subject.known,
      record { spelled = h.cert.spelled; says = h.says },
      inr (y, k.spelled, c.in-Err-test_names.ensures c.args.octets.now c.args.issuer.now x y h.cert k),
    )
