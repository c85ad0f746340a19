use Rattle.std.proofs.Common.{◌≡◌, ◌<◌, ◌^◌, ℕ, false, None, Some, length, sym, ap, subst, ◌∙◌, arith}
use Rattle.rpki_der.specs.Prelude.{oid, tlv}
use Rattle.rpki_time.specs.Serial.{serial_octets}
use Rattle.rpki_attributes.specs.SignedAttributes.{AttributeValues}
use Rattle.rpki_attributes.specs.EncodedAttributes.{attribute_octets, type_attribute, binary_attribute, time_and_digest}
use Rattle.rpki_attributes.specs.EncodedAttributes.{CanWriteAttributes, IsFewIn}
use Rattle.rpki_attributes.proofs.AttributesOrderLaws.{binary-size, binary-inside, type-before-binary}
use Rattle.rpki_attributes.proofs.AttributesWritingLaws.{beside-behind, beside-before, attribute-fits, not-both}
use Rattle.rpki_attributes.proofs.AttributesWritingLaws.{contents-without, contents-with}
use Rattle.rpki_attributes.proofs.encode.AttributesBuilder.encode_all.Goals as goal

pub encoded_len-requires : goal.encoded_len-requires
encoded_len-requires c =
    let binary = c.encode_binary-binary.ensures in
    let n = c.in-Some.seconds in
    let few : n < 2 ^ 64 = subst IsFewIn c.in-Some.is c.self.invariant.binary in
    let size = binary-size n few in
    (binary.short, rw binary.octets (attribute-fits (binary_attribute n) (omega arith) (omega (arith, size))))

pub returns-in-None-clause-octets : goal.returns-in-None-clause-octets
returns-in-None-clause-octets c =
    let v = c.args.self.now in
    let h = subst CanWriteAttributes c.self.view_is c.self.invariant in
    let there : v.binary_signing_time ≡ None = ap (λ (w : AttributeValues). w.binary_signing_time) (sym c.self.view_is)
    ∙ c.in-None.is in
    c.encode_with_time.ensures.octets ∙ contents-without v h there

pub returns-then-leads-clause-octets : goal.returns-then-leads-clause-octets
returns-then-leads-clause-octets c =
    let v = c.args.self.now in
    let h = subst CanWriteAttributes c.self.view_is c.self.invariant in
    let n = c.in-Some.seconds in
    let few : n < 2 ^ 64 = subst IsFewIn c.in-Some.is c.self.invariant.binary in
    let size = binary-inside n few in
    let kind = type_attribute v.content_type in
    let there : v.binary_signing_time ≡ Some n = ap (λ (w : AttributeValues). w.binary_signing_time)
    (sym c.self.view_is) ∙ c.in-Some.is in
    let less = subst (λ (n : ℕ). n < length (attribute_octets kind)) c.encoded_len.ensures
    (c.leads.ensures.0 c.if-leads.true) in
    beside-behind v.content_type (binary_attribute n) (time_and_digest v) (omega (arith, size)) _ _
    c.encode_binary-binary.ensures.octets less c.encode_with_time-then-leads.ensures.octets
    ∙ contents-with v h n there

pub returns-else-leads-clause-octets : goal.returns-else-leads-clause-octets
returns-else-leads-clause-octets c =
    let v = c.args.self.now in
    let h = subst CanWriteAttributes c.self.view_is c.self.invariant in
    let n = c.in-Some.seconds in
    let few : n < 2 ^ 64 = subst IsFewIn c.in-Some.is c.self.invariant.binary in
    let size = binary-inside n few in
    let kind = type_attribute v.content_type in
    let there : v.binary_signing_time ≡ Some n = ap (λ (w : AttributeValues). w.binary_signing_time)
    (sym c.self.view_is) ∙ c.in-Some.is in
    beside-before v.content_type (binary_attribute n) (time_and_digest v) (omega (arith, size))
    (type-before-binary (tlv oid false v.content_type) (serial_octets n)) _ _ _ c.encode_type.ensures.octets
    c.encode_binary-binary.ensures.octets
    (λ less. not-both c.leads.result
    (c.leads.ensures.1
    (subst (λ (n : ℕ). n < length (attribute_octets kind)) (sym c.encoded_len.ensures) less)) c.if-leads.false)
    c.encode_with_time-else-leads.ensures.octets
    ∙ contents-with v h n there
