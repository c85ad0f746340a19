use Rattle.std.proofs.Common.{◌≡◌, ◌<◌, ℕ, false, Some, length, sym, ap, subst, ◌∙◌, arith}
use Rattle.rpki_der.specs.Prelude.{oid, tlv}
use Rattle.rpki_time.specs.TimeValue.{time_octets}
use Rattle.rpki_attributes.specs.SignedAttributes.{AttributeValues}
use Rattle.rpki_attributes.specs.EncodedAttributes.{attribute_octets, type_attribute, time_attribute, digest_alone}
use Rattle.rpki_attributes.proofs.AttributesOrderLaws.{time-size, time-inside, type-before-time}
use Rattle.rpki_attributes.proofs.AttributesWritingLaws.{beside-behind, beside-before, attribute-fits, not-both}
use Rattle.rpki_attributes.proofs.encode.AttributesBuilder.encode_with_time.Goals as goal

pub encoded_len-requires : goal.encoded_len-requires
encoded_len-requires c =
    let time = c.encode_time-time.ensures in
    let t = c.in-Some.time in
    let size = time-size t in
    (time.short, rw time.octets (attribute-fits (time_attribute t) (omega arith) (omega (arith, size.1))))

pub returns-then-leads-clause-octets : goal.returns-then-leads-clause-octets
returns-then-leads-clause-octets c =
    let v = c.args.self.now in
    let t = c.in-Some.time in
    let size = time-inside t in
    let kind = type_attribute v.content_type in
    let there : v.signing_time ≡ Some t = ap (λ (w : AttributeValues). w.signing_time) (sym c.self.view_is)
    ∙ c.in-Some.is in
    let less = subst (λ (n : ℕ). n < length (attribute_octets kind)) c.encoded_len.ensures
    (c.leads.ensures.0 c.if-leads.true) in
    rw (c.if-not-with_type.false, there)
    (beside-behind v.content_type (time_attribute t) (digest_alone v) (omega (arith, size.1)) _ _
    c.encode_time-time.ensures.octets less c.encode_with_digest-then-leads.ensures.octets)

pub returns-else-leads-clause-octets : goal.returns-else-leads-clause-octets
returns-else-leads-clause-octets c =
    let v = c.args.self.now in
    let t = c.in-Some.time in
    let size = time-inside t in
    let kind = type_attribute v.content_type in
    let there : v.signing_time ≡ Some t = ap (λ (w : AttributeValues). w.signing_time) (sym c.self.view_is)
    ∙ c.in-Some.is in
    rw (c.if-not-with_type.false, there)
    (beside-before v.content_type (time_attribute t) (digest_alone v) (omega (arith, size.1))
    (type-before-time (tlv oid false v.content_type) (time_octets t)) _ _ _ c.encode_type.ensures.octets
    c.encode_time-time.ensures.octets
    (λ less. not-both c.leads.result
    (c.leads.ensures.1
    (subst (λ (n : ℕ). n < length (attribute_octets kind)) (sym c.encoded_len.ensures) less)) c.if-leads.false)
    c.encode_with_digest-else-leads.ensures.octets)
