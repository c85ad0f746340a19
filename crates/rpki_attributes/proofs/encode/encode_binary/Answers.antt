use Rattle.std.proofs.Common.{arith}
use Rattle.rpki_time.proofs.SerialReadingLaws.{serial-few}
use Rattle.rpki_x509.specs.TagLaws.{number-few}
use Rattle.rpki_attributes.proofs.encode.encode_binary.Goals as goal

pub encode_attribute-requires-clause-value : goal.encode_attribute-requires-clause-value
encode_attribute-requires-clause-value c =
    let n = c.from-2.result in
    let few = serial-few n in
    (c.encode.ensures.short.1 (number-few n), rw c.encode.ensures.encoded (omega (arith, few)))
