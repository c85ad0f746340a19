use Rattle.std.proofs.Common.{◌<◌, ℕ, false, [], length, refl, sym, subst, arith}
use Rattle.rpki_der.specs.Prelude.{octet_string, oid, tlv}
use Rattle.rpki_attributes.specs.EncodedAttributes.{attribute_octets, type_attribute, digest_attribute}
use Rattle.rpki_attributes.proofs.AttributesOrderLaws.{digest-size, digest-inside, type-before-digest}
use Rattle.rpki_attributes.proofs.AttributesWritingLaws.{beside-behind, beside-before, octets-alone, attribute-fits}
use Rattle.rpki_attributes.proofs.AttributesWritingLaws.{not-both}
use Rattle.rpki_attributes.proofs.encode.AttributesBuilder.encode_with_digest.Goals as goal

pub encoded_len-requires : goal.encoded_len-requires
encoded_len-requires c =
    let digest = c.encode_digest-digest.ensures in
    let d = c.args.self.now.message_digest in
    let size = digest-size d digest.can.digest in (
      digest.short,
      rw digest.octets (attribute-fits (digest_attribute d) (omega arith) (omega (arith, size))),
    )

pub returns-then-leads-clause-octets : goal.returns-then-leads-clause-octets
returns-then-leads-clause-octets c =
    let v = c.args.self.now in
    let digest = c.encode_digest-digest.ensures in
    let size = digest-inside v.message_digest digest.can.digest in
    let kind = type_attribute v.content_type in
    let less = subst (λ (n : ℕ). n < length (attribute_octets kind)) c.encoded_len.ensures
    (c.leads.ensures.0 c.if-leads.true) in
    rw c.if-not-with_type.false
    (beside-behind v.content_type (digest_attribute v.message_digest) [] (omega (arith, size)) _ _ digest.octets less
    (octets-alone kind _ c.encode_type.ensures.octets))

pub returns-else-leads-clause-octets : goal.returns-else-leads-clause-octets
returns-else-leads-clause-octets c =
    let v = c.args.self.now in
    let digest = c.encode_digest-digest.ensures in
    let size = digest-inside v.message_digest digest.can.digest in
    let kind = type_attribute v.content_type in
    rw c.if-not-with_type.false
    (beside-before v.content_type (digest_attribute v.message_digest) [] (omega (arith, size))
    (type-before-digest (tlv oid false v.content_type) (tlv octet_string false v.message_digest)) _ _ []
    c.encode_type-else-leads.ensures.octets digest.octets
    (λ less. not-both c.leads.result
    (c.leads.ensures.1
    (subst (λ (n : ℕ). n < length (attribute_octets kind)) (sym c.encoded_len.ensures) less)) c.if-leads.false)
    refl)
