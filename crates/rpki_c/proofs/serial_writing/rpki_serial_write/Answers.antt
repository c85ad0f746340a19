use Rattle.std.proofs.Common.{arith, false}
use Rattle.rpki_der.specs.TagName.{tag_of}
use Rattle.rpki_der.proofs.EncodeLaws.{tlv_at_most}
use Rattle.rpki_time.specs.Serial.{serial_contents}
use Rattle.rpki_time.proofs.WritingLaws.{serial_contents-few}
use Rattle.rpki_c.proofs.serial_writing.rpki_serial_write.Goals as goal

pub store_values-requires : goal.store_values-requires
store_values-requires c =
    let x = c.encode.result in
    let few = serial_contents-few x.content in
    let size = tlv_at_most (tag_of x.class x.number) false (serial_contents x.content) in
    (omega (arith, few), omega (arith, few, size))
