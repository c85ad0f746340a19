use Rattle.std.proofs.Common.{false, arith}
use Rattle.rpki_der.specs.Prelude.{integer}
use Rattle.rpki_der.proofs.EncodeLaws.{tlv_at_most}
use Rattle.rpki_time.specs.Serial.{serial_contents}
use Rattle.rpki_x509.specs.TagLaws.{number-few}
use Rattle.rpki_issue.proofs.csr_written.put_asker.Goals as goal

pub put-requires-clause-short : goal.put-requires-clause-short
put-requires-clause-short c = c.encode.ensures.short.1 (number-few c.from.result)

pub put-requires-clause-few : goal.put-requires-clause-few
put-requires-clause-few c =
    let one = number-few c.from.result in
    let all = tlv_at_most integer false (serial_contents c.from.result) in
    rw c.encode.ensures.encoded (omega (arith, one, all))
