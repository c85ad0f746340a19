use Rattle.std.proofs.Common.{true, arith}
use Rattle.rpki_der.specs.TagName.{sequence}
use Rattle.rpki_der.proofs.EncodeLaws.{tlv_at_most}
use Rattle.rpki.specs.PublicKey.{key_contents}
use Rattle.rpki.proofs.crypto.keys.public_key.PublicKey.to_info_bytes.Goals as goal

pub write_to_bytes-requires : goal.write_to_bytes-requires
write_to_bytes-requires c = (
  c.encode_ref.ensures.short.1 c.requires,
  rw c.encode_ref.ensures.octets
      (omega (arith, tlv_at_most sequence true (key_contents c.args.self.now))),
)
