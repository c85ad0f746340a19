use Rattle.std.proofs.Common.{inl, inr, refl, ◌∙◌, sym, ap, Some}
use Rattle.std.proofs.lemmas.Bool.{iff_false}
use Rattle.rpki_c.proofs.below.signed_told.Goals as goal

pub returns-then-not-is_identifier : goal.returns-then-not-is_identifier
returns-then-not-is_identifier c = λ s t x y h k.
    let own = c.key_of.ensures s x h in
    let other = iff_false c.is_identifier.ensures c.if-not-is_identifier.true in
    inl (refl, λ same. other (same ∙ sym (ap (λ z. Some z) own)))

pub returns : goal.returns
returns c = λ s t x y h k.
    let own = c.key_of.ensures s x h in
    let subject = c.is_identifier.ensures.0 c.if-not-is_identifier.false ∙ ap (λ z. Some z) own in
    let signed = rw (k.tbs.named.keyed.same, h.parts.signed.octets, h.parts.signature.octets) at c.verified.ensures in
    inr (subject, signed)
