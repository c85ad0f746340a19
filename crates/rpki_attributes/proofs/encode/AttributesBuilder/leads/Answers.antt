use Rattle.std.proofs.Common.{false, arith}
use Rattle.rpki_der.specs.Prelude.{oid}
use Rattle.rpki_der.proofs.EncodeLaws.{tlv_at_most}
use Rattle.rpki_attributes.specs.EncodedAttributes.{type_attribute}
use Rattle.rpki_attributes.proofs.AttributesWritingLaws.{attribute-few}
use Rattle.rpki_attributes.proofs.encode.AttributesBuilder.leads.Goals as goal

pub encoded_len-requires : goal.encoded_len-requires
encoded_len-requires c =
    let id = c.args.self.now.content_type in
    let few = attribute-few (type_attribute id) (omega arith) in
    let can = c.encode_type.ensures.can in (
      c.encode_type.ensures.short,
      rw c.encode_type.ensures.octets (omega (arith, few.1, can.content_type.few, tlv_at_most oid false id)),
    )
