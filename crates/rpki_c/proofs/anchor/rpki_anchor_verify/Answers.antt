use Rattle.std.proofs.Common.{inl, inr, refl, ◌∙◌, sym, ap, Some}
use Rattle.std.proofs.lemmas.Bool.{iff_false}
use Rattle.rpki_c.proofs.anchor.rpki_anchor_verify.Goals as goal

pub returns-then-not-has_key : goal.returns-then-not-has_key
returns-then-not-has_key c =
    let (x, h) = c.in-Ok.ensures in
    let has = c.has_key.ensures c.args.octets.now x h.cert in
    inr (x, h.cert.spelled, c.in-Ok.found.known, h.says, inl (refl, iff_false has c.if-not-has_key.true))

pub returns-then-not-is_identifier : goal.returns-then-not-is_identifier
returns-then-not-is_identifier c =
    let (x, h) = c.in-Ok.ensures in
    let has = c.has_key.ensures c.args.octets.now x h.cert in
    let own = c.key_of.ensures c.args.octets.now x h.cert in
    let other = iff_false c.is_identifier.ensures c.if-not-is_identifier.true in
    inr (
      x,
      h.cert.spelled,
      c.in-Ok.found.known,
      h.says,
      inr (inl (refl, has.0 c.if-not-has_key.false, λ same. other (same ∙ sym (ap (λ z. Some z) own)))),
    )

pub returns : goal.returns
returns c =
    let (x, h) = c.in-Ok.ensures in
    let has = c.has_key.ensures c.args.octets.now x h.cert in
    let own = c.key_of.ensures c.args.octets.now x h.cert in
    let subject = c.is_identifier.ensures.0 c.if-not-is_identifier.false ∙ ap (λ z. Some z) own in
    let signed = rw (h.cert.tbs.named.keyed.same, h.cert.parts.signed.octets, h.cert.parts.signature.octets) at
    c.verified.ensures in
    inr (x, h.cert.spelled, c.in-Ok.found.known, h.says, inr (inr (has.0 c.if-not-has_key.false, subject, signed)))
