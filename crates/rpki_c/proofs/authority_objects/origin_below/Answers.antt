use Rattle.std.proofs.Common.{◌≡◌, Ok, inl, inr, refl, sym, ◌∙◌}
use Rattle.std.proofs.lemmas.Bool.{iff_false}
use Rattle.rpki_contents.specs.RoaView.{route_origin}
use Rattle.rpki_c.specs.AuthorityObject.{IsOriginWithin}
use Rattle.rpki_c.specs.Roa.{passed}
use Rattle.rpki_c.proofs.CertificateLaws.{listed}
use Rattle.rpki_c.proofs.SignerPathLaws.{origin-path}
use Rattle.rpki_c.proofs.authority_objects.origin_below.Goals as goal

pub returns-then-rpki_content_type-ne1 : goal.returns-then-rpki_content_type-ne1
returns-then-rpki_content_type-ne1 c =
    let (x, at) = c.in-Ok.ensures.ok in
    let type = rw at.parts.content.content_type.octets at c.rpki_content_type.ensures in
    inr (x, at.spelled, inl (refl, λ is. c.if-rpki_content_type-ne1.true (type ∙ is)))

pub returns-in-Err-signed_below : goal.returns-in-Err-signed_below
returns-in-Err-signed_below c =
    let (x, at) = c.in-Ok.ensures.ok in
    let type = rw at.parts.content.content_type.octets at c.rpki_content_type.ensures in
    let wrong = c.in-Err-signed_below.ensures c.args.strict c.args.octets.now x at in
    inr (x, at.spelled, inr (sym type ∙ c.if-rpki_content_type-ne1.false, inl wrong))

pub returns-then-not-lists_addresses : goal.returns-then-not-lists_addresses
returns-then-not-lists_addresses c =
    let (x, at) = c.in-Ok.ensures.ok in
    let type = rw at.parts.content.content_type.octets at c.rpki_content_type.ensures in
    let signed = c.in-Ok-signed_below.ensures c.args.strict c.args.octets.now x at in
    let said = c.lists_addresses.ensures x.cert.tbs.extensions (listed at.parts.cert_parts) in
    inr (
      x,
      at.spelled,
      inr (
        sym type ∙ c.if-rpki_content_type-ne1.false,
        inr (c.in-Ok-signed_below.known, signed, inl (refl, iff_false said c.if-not-lists_addresses.true)),
      ),
    )

pub returns-in-Err-addresses_under : goal.returns-in-Err-addresses_under
returns-in-Err-addresses_under c =
    let (x, at) = c.in-Ok.ensures.ok in
    let type = rw at.parts.content.content_type.octets at c.rpki_content_type.ensures in
    let signed = c.in-Ok-signed_below.ensures c.args.strict c.args.octets.now x at in
    let said = c.lists_addresses.ensures x.cert.tbs.extensions (listed at.parts.cert_parts) in
    let none = c.in-Err-addresses_under.ensures _ x.cert at.parts.cert_parts in
    inr (
      x,
      at.spelled,
      inr (
        sym type ∙ c.if-rpki_content_type-ne1.false,
        inr (c.in-Ok-signed_below.known, signed, inr (said.0 c.if-not-lists_addresses.false, inl none)),
      ),
    )

pub returns-in-Ok-origin_within : goal.returns-in-Ok-origin_within
returns-in-Ok-origin_within c =
    let (x, at) = c.in-Ok.ensures.ok in
    let type = rw at.parts.content.content_type.octets at c.rpki_content_type.ensures in
    let said = c.lists_addresses.ensures x.cert.tbs.extensions (listed at.parts.cert_parts) in
    let signed = c.in-Ok-signed_below.ensures c.args.strict c.args.octets.now x at in
    let kinds = said.0 c.if-not-lists_addresses.false in
    let has = c.in-Ok-addresses_under.ensures _ x.cert at.parts.cert_parts in
    let (within, says) : IsOriginWithin c.args.strict x.content.content c.in-Ok-addresses_under.own
    × (route_origin c.args.strict x.content.content ≡ Ok (passed c.in-Ok-origin_within.parts)) =
    rw at.parts.content.content.octets at c.in-Ok-origin_within.ensures in
    record {
      x = x;
      spelled = at.spelled;
      type = sym type ∙ c.if-rpki_content_type-ne1.false;
      known = c.in-Ok-signed_below.known;
      signed = signed;
      kinds = kinds;
      own = c.in-Ok-addresses_under.own;
      has = has;
      within = within;
      path = origin-path c.args.strict c.args.by.now x c.in-Ok-signed_below.known c.in-Ok-addresses_under.own signed
          kinds has within;
      says = says;
    }

pub returns : goal.returns
returns c =
    let (x, at) = c.in-Ok.ensures.ok in
    let type = rw at.parts.content.content_type.octets at c.rpki_content_type.ensures in
    let signed = c.in-Ok-signed_below.ensures c.args.strict c.args.octets.now x at in
    let said = c.lists_addresses.ensures x.cert.tbs.extensions (listed at.parts.cert_parts) in
    let has = c.in-Ok-addresses_under.ensures _ x.cert at.parts.cert_parts in
    let wrong = rw at.parts.content.content.octets at c.in-Err-origin_within.ensures in
    inr (
      x,
      at.spelled,
      inr (
        sym type ∙ c.if-rpki_content_type-ne1.false,
        inr (
          c.in-Ok-signed_below.known,
          signed,
          inr (said.0 c.if-not-lists_addresses.false, inr (c.in-Ok-addresses_under.own, has, wrong)),
        ),
      ),
    )
