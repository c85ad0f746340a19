use Rattle.std.proofs.Common.{inl, inr, refl, sym, arith}
use Rattle.std.proofs.lemmas.Bool.{iff_false}
use Rattle.rpki_c.proofs.BelowLaws.{object-signed}
use Rattle.rpki_c.proofs.authority_objects.signed_below.Goals as goal

pub below-requires : goal.below-requires
below-requires c = let (strict, s, x, h) = c.requires in (_, x.cert, h.parts.cert_parts)

pub returns-in-Err : goal.returns-in-Err
returns-in-Err c = λ strict s x h. inl (c.in-Err.ensures strict s x h)

pub returns-in-Err-below : goal.returns-in-Err-below
returns-in-Err-below c = λ strict s x h.
    inr (c.in-Ok.ensures strict s x h, inl (c.in-Err-below.ensures _ x.cert h.parts.cert_parts))

pub returns-then-not-is_identifier : goal.returns-then-not-is_identifier
returns-then-not-is_identifier c = λ strict s x h.
    let (says, under) = c.in-Ok-below.ensures _ x.cert h.parts.cert_parts in
    let other = iff_false (rw h.parts.signer.identifier at c.is_identifier.ensures) c.if-not-is_identifier.true in
    inr (
      c.in-Ok.ensures strict s x h,
      inr (c.in-Ok-below.known, says, under, λ is. omega (arith, is), inl (refl, other)),
    )

pub returns-then-told-ne0 : goal.returns-then-told-ne0
returns-then-told-ne0 c = λ strict s x h.
    let cert = h.parts.cert_parts in
    let (says, under) = c.in-Ok-below.ensures _ x.cert cert in
    let same = rw h.parts.signer.identifier at c.is_identifier.ensures.0 c.if-not-is_identifier.false in
    let told = rw (
      cert.tbs.named.keyed.same,
      sym h.parts.signer.attributes.message,
      h.parts.signer.signature.octets,
    ) at c.attributes_verified-told.ensures in
    inr (
      c.in-Ok.ensures strict s x h,
      inr (c.in-Ok-below.known, says, under, c.if-told-ne0.true, inr (same, told)),
    )

pub returns : goal.returns
returns c = λ strict s x h.
    let cert = h.parts.cert_parts in
    let (says, under) = c.in-Ok-below.ensures _ x.cert cert in
    let same = rw h.parts.signer.identifier at c.is_identifier.ensures.0 c.if-not-is_identifier.false in
    let told = rw (
      cert.tbs.named.keyed.same,
      sym h.parts.signer.attributes.message,
      h.parts.signer.signature.octets,
    ) at c.attributes_verified-told.ensures in
    record {
      signed = object-signed x c.in-Ok-below.known says (c.in-Ok.ensures strict s x h) same
          (rw c.if-told-ne0.false at told);
      says = says;
      below = under;
    }
