use Rattle.std.proofs.Common.{arith}
use Rattle.rpki_attributes.proofs.AttributesOrderLaws.{digest-size}
use Rattle.rpki_attributes.proofs.encode.AttributesBuilder.encode_digest.Goals as goal

pub encode_attribute-requires-clause-value : goal.encode_attribute-requires-clause-value
encode_attribute-requires-clause-value c =
    let digest = c.self.inside.values.now.message_digest in
    let size = c.as_slice.ensures.size in
    let all = digest-size digest size in (
      c.encode.ensures.short.1 (rw c.as_slice.ensures.octets (omega (arith, size))),
      rw (c.encode.ensures.encoded, c.as_slice.ensures.octets) (omega (arith, all)),
    )
