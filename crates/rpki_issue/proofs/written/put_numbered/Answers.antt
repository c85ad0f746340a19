use Rattle.std.proofs.Common.{true, false, arith}
use Rattle.rpki_der.specs.Prelude.{integer, tlv}
use Rattle.rpki_der.proofs.EncodeLaws.{tlv_at_most}
use Rattle.rpki_time.specs.Serial.{serial_contents}
use Rattle.rpki_x509.specs.TagLaws.{number-few}
use Rattle.rpki_cert.specs.Cert.{version_tag, two}
use Rattle.rpki_issue.proofs.WrittenTbsLaws.{algorithm-few}
use Rattle.rpki_issue.proofs.written.put_numbered.Goals as goal

pub put-requires-clause-few : goal.put-requires-clause-few
put-requires-clause-few c =
    let one = tlv_at_most integer false two in
    let all = tlv_at_most version_tag true (tlv integer false two) in
    rw c.encode_version.ensures.octets (omega (arith, one, all))

pub put-requires-2-clause-short : goal.put-requires-2-clause-short
put-requires-2-clause-short c = c.encode.ensures.short.1 (number-few c.args.builder.now.serial_number)

pub put-requires-2-clause-few : goal.put-requires-2-clause-few
put-requires-2-clause-few c =
    let n = c.args.builder.now.serial_number in
    let one = number-few n in
    let all = tlv_at_most integer false (serial_contents n) in
    rw c.encode.ensures.encoded (omega (arith, one, all))

pub put-requires-3-clause-few : goal.put-requires-3-clause-few
put-requires-3-clause-few c = rw c.x509_encode.ensures.octets (omega (arith, algorithm-few))
