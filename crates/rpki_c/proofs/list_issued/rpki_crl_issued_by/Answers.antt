use Rattle.std.proofs.Common.{inl, inr, refl}
use Rattle.rpki_c.proofs.list_issued.rpki_crl_issued_by.Goals as goal

pub returns-in-Err-read : goal.returns-in-Err-read
returns-in-Err-read c =
    let (x, h) = c.in-Ok.ensures.ok in
    let q = c.in-Err-read.field-0 in
    inr (x, h.spelled, inl (refl, q.part, (q.error, c.in-Err-read.ensures.err)))

pub returns : goal.returns
returns c =
    let (x, h) = c.in-Ok.ensures.ok in
    let (y, k) = c.in-Ok-read.ensures.ok in
    inr (x, h.spelled, inr (y, k.spelled, c.list_told.ensures c.args.octets.now c.args.issuer.now x y h k))
