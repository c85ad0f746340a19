use Rattle.std.proofs.Common.{false, arith}
use Rattle.rpki_der.specs.Prelude.{oid}
use Rattle.rpki_der.proofs.EncodeLaws.{tlv_at_most}
use Rattle.rpki_attributes.proofs.encode.AttributesBuilder.encode_type.Goals as goal

pub encode_attribute-requires-clause-value : goal.encode_attribute-requires-clause-value
encode_attribute-requires-clause-value c =
    let few = c.self.invariant.content_type.few in
    let id = c.self.inside.values.now.content_type.0.now in (
      c.encode.ensures.short.1 (omega (arith, few)),
      rw c.encode.ensures.encoded (omega (arith, few, tlv_at_most oid false id)),
    )
