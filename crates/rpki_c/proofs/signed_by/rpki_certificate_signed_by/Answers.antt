use Rattle.std.proofs.Common.{inl, inr, refl, ◌∙◌, sym, ap, Some}
use Rattle.std.proofs.lemmas.Bool.{iff_false}
use Rattle.rpki_c.proofs.signed_by.rpki_certificate_signed_by.Goals as goal

pub returns-then-not-is_identifier : goal.returns-then-not-is_identifier
returns-then-not-is_identifier c =
    let (x, y, h) = c.in-Ok.ensures in
    let own = c.key_of.ensures c.args.octets.now x h.subject.cert in
    let other = iff_false c.is_identifier.ensures c.if-not-is_identifier.true in
    inr (
      x,
      y,
      c.in-Ok.found.subject.known,
      h.by,
      inl (refl, λ same. other (same ∙ sym (ap (λ z. Some z) own))),
    )

pub returns : goal.returns
returns c =
    let (x, y, h) = c.in-Ok.ensures in
    let own = c.key_of.ensures c.args.octets.now x h.subject.cert in
    let subject = c.is_identifier.ensures.0 c.if-not-is_identifier.false ∙ ap (λ z. Some z) own in
    let at = h.subject.cert in
    let signed = rw (h.issued.tbs.named.keyed.same, at.parts.signed.octets, at.parts.signature.octets) at
    c.verified.ensures in
    inr (x, y, c.in-Ok.found.subject.known, h.by, inr (subject, signed))
