use Rattle.std.proofs.Common.{true, arith}
use Rattle.rpki_der.specs.Prelude.{sequence, sequence_legal, only}
use Rattle.rpki_der.proofs.EncodeLaws.{tlv_at_most}
use Rattle.rpki_time.specs.Time.{cut}
use Rattle.rpki_time.specs.Serial.{serial_number, serial_octets}
use Rattle.rpki_time.specs.TimeValue.{time, time_octets}
use Rattle.rpki_time.proofs.SerialReadingLaws.{serial-spelled}
use Rattle.rpki_time.proofs.TimeValueLaws.{time_spelled}
use Rattle.rpki_crl.specs.Crl.{entry_of, entry_parts}
use Rattle.rpki_crl.specs.EncodedCrl.{entry_contents, normal_entry}
use Rattle.rpki_crl.specs.EncodedLaws.{entry-few}
use Rattle.rpki_x509.specs.TagLaws.{number-few}
use Rattle.rpki_x509.proofs.WrittenLaws.{written-then, written-around}
use Rattle.rpki_crl.proofs.crl_entry.CrlEntry.encode.Goals as goal

pub returns-clause-fits : goal.returns-clause-fits
returns-clause-fits c =
    let x = entry_of c.args.self in
    let few = entry-few x in
    rw c.new.ensures (
      (
        (c.encode.ensures.short.1 (number-few x.0), tt),
        rw (c.encode.ensures.encoded, c.encode_varied.ensures.time) (omega (arith, few)),
      ),
      omega (arith, few, tlv_at_most sequence true (entry_contents x)),
    )

pub returns-clause-entry : goal.returns-clause-entry
returns-clause-entry c = (c.into_array.ensures.below, c.encode_varied.ensures.year)

pub returns-clause-read_back : goal.returns-clause-read_back
returns-clause-read_back c =
    let x = entry_of c.args.self in
    let few = entry-few x in
    written-around sequence entry_parts (normal_entry x) (entry_contents x) sequence_legal (omega (arith, few))
    (written-then serial_number (only time) x.0 (cut x.1) (serial_octets x.0) (time_octets x.1)
    (serial-spelled x.0 c.into_array.ensures.below) (time_spelled x.1 c.encode_varied.ensures.year))
