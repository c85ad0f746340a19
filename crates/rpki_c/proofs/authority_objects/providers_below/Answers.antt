use Rattle.std.proofs.Common.{◌≡◌, inl, inr, refl, sym, ◌∙◌}
use Rattle.std.proofs.lemmas.Bool.{iff_false}
use Rattle.rpki_c.specs.Aspa.{passed}
use Rattle.rpki_c.specs.AuthorityObject.{IsCustomerWithin}
use Rattle.rpki_c.proofs.CertificateLaws.{listed}
use Rattle.rpki_c.proofs.SignerPathLaws.{customer-path}
use Rattle.rpki_c.proofs.authority_objects.providers_below.Goals as goal

pub returns-then-rpki_content_type-ne3 : goal.returns-then-rpki_content_type-ne3
returns-then-rpki_content_type-ne3 c =
    let (x, at) = c.in-Ok.ensures.ok in
    let type = rw at.parts.content.content_type.octets at c.rpki_content_type.ensures in
    inr (x, at.spelled, inl (refl, λ is. c.if-rpki_content_type-ne3.true (type ∙ is)))

pub returns-in-Err-signed_below : goal.returns-in-Err-signed_below
returns-in-Err-signed_below c =
    let (x, at) = c.in-Ok.ensures.ok in
    let type = rw at.parts.content.content_type.octets at c.rpki_content_type.ensures in
    let wrong = c.in-Err-signed_below.ensures c.args.strict c.args.octets.now x at in
    inr (x, at.spelled, inr (sym type ∙ c.if-rpki_content_type-ne3.false, inl wrong))

pub returns-then-not-lists_numbers : goal.returns-then-not-lists_numbers
returns-then-not-lists_numbers c =
    let (x, at) = c.in-Ok.ensures.ok in
    let type = rw at.parts.content.content_type.octets at c.rpki_content_type.ensures in
    let signed = c.in-Ok-signed_below.ensures c.args.strict c.args.octets.now x at in
    let said = c.lists_numbers.ensures x.cert.tbs.extensions (listed at.parts.cert_parts) in
    inr (
      x,
      at.spelled,
      inr (
        sym type ∙ c.if-rpki_content_type-ne3.false,
        inr (c.in-Ok-signed_below.known, signed, inl (refl, iff_false said c.if-not-lists_numbers.true)),
      ),
    )

pub returns-in-Err-numbers_under : goal.returns-in-Err-numbers_under
returns-in-Err-numbers_under c =
    let (x, at) = c.in-Ok.ensures.ok in
    let type = rw at.parts.content.content_type.octets at c.rpki_content_type.ensures in
    let signed = c.in-Ok-signed_below.ensures c.args.strict c.args.octets.now x at in
    let said = c.lists_numbers.ensures x.cert.tbs.extensions (listed at.parts.cert_parts) in
    let none = c.in-Err-numbers_under.ensures.gives _ x.cert at.parts.cert_parts in
    inr (
      x,
      at.spelled,
      inr (
        sym type ∙ c.if-rpki_content_type-ne3.false,
        inr (c.in-Ok-signed_below.known, signed, inr (said.0 c.if-not-lists_numbers.false, inl none)),
      ),
    )

pub returns-in-Ok-customer_within : goal.returns-in-Ok-customer_within
returns-in-Ok-customer_within c =
    let (x, at) = c.in-Ok.ensures.ok in
    let type = rw at.parts.content.content_type.octets at c.rpki_content_type.ensures in
    let said = c.lists_numbers.ensures x.cert.tbs.extensions (listed at.parts.cert_parts) in
    let signed = c.in-Ok-signed_below.ensures c.args.strict c.args.octets.now x at in
    let kinds = said.0 c.if-not-lists_numbers.false in
    let has = c.in-Ok-numbers_under.ensures.gives _ x.cert at.parts.cert_parts in
    let (within, says) : (h : IsCustomerWithin x.content.content c.in-Ok-numbers_under.own)
    × (passed c.in-Ok-customer_within.parts ≡ h.content) =
    rw at.parts.content.content.octets at c.in-Ok-customer_within.ensures in
    record {
      x = x;
      spelled = at.spelled;
      type = sym type ∙ c.if-rpki_content_type-ne3.false;
      known = c.in-Ok-signed_below.known;
      signed = signed;
      kinds = kinds;
      own = c.in-Ok-numbers_under.own;
      has = has;
      within = within;
      path = customer-path c.args.by.now x c.in-Ok-signed_below.known c.in-Ok-numbers_under.own signed kinds has
          within;
      says = says;
    }

pub returns : goal.returns
returns c =
    let (x, at) = c.in-Ok.ensures.ok in
    let type = rw at.parts.content.content_type.octets at c.rpki_content_type.ensures in
    let signed = c.in-Ok-signed_below.ensures c.args.strict c.args.octets.now x at in
    let said = c.lists_numbers.ensures x.cert.tbs.extensions (listed at.parts.cert_parts) in
    let has = c.in-Ok-numbers_under.ensures.gives _ x.cert at.parts.cert_parts in
    let wrong = rw at.parts.content.content.octets at c.in-Err-customer_within.ensures in
    inr (
      x,
      at.spelled,
      inr (
        sym type ∙ c.if-rpki_content_type-ne3.false,
        inr (
          c.in-Ok-signed_below.known,
          signed,
          inr (said.0 c.if-not-lists_numbers.false, inr (c.in-Ok-numbers_under.own, has, wrong)),
        ),
      ),
    )
