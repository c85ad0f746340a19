-- Lemmas that an impl cites: what is written of the entries of a revocation list, and the tags.
use Rattle.std.specs.Prelude.{◌≡◌, ◌↔◌, ◌≤◌, ◌<◌, ◌^◌, ℕ, true, false, ◌++◌, length}
use Rattle.std.proofs.Common.{ap, arith, lit<, length-append}
use Rattle.rpki_der.specs.Prelude.{IsTag, sequence, integer, tlv, IsValue, IsValueList, IsShortTree, tree_octets}
use Rattle.rpki_der.specs.Prelude.{primitive_value_list, constructed_value, value_lists_append, sequence_legal}
use Rattle.rpki_der.proofs.EncodeLaws.{tlv-at-least}
use Rattle.rpki_time.specs.Serial.{serial_contents, serial_octets}
use Rattle.rpki_time.specs.TimeValue.{time_octets}
use Rattle.rpki_time.specs.TimeValueLaws.{time_is_value_list, time_spelled, time_measured}
use Rattle.rpki_time.proofs.SerialReadingLaws.{serial-few}
use Rattle.rpki_time.proofs.TimeValueLaws.{time-few}
use Rattle.rpki_crl.specs.Crl.{Entry, extensions_tag}
use Rattle.rpki_crl.specs.EncodedCrl.{entry_contents, entry_octets, entry_tree}
use Rattle.rpki_x509.specs.TagLaws.{integer-legal, number-few}

-- ---- entries

pub entry-few : (x : Entry) → length (entry_contents x) ≤ 39
entry-few x =
    let serial = serial-few x.0 in
    let time = time-few x.1 in
    omega (arith, length-append (serial_octets x.0) (time_octets x.1))

pub entry_spelled : (x : Entry) → entry_octets x ≡ tree_octets (entry_tree x)
entry_spelled x = ap (λ (w : _). tlv sequence true (serial_octets x.0 ++ w)) (time_spelled x.1)

pub entry_measured : (x : Entry) → Unit {0} ↔ IsShortTree (entry_tree x)
entry_measured x = (
  λ _. (
    (number-few x.0, (time_measured x.1).0 tt),
    let few = entry-few x in
        rw (← time_spelled x.1) (omega (arith, few)),
  ),
  λ _. tt,
)

pub entry_value : (x : Entry) → IsValue (entry_octets x)
entry_value x =
    let few = entry-few x in
    constructed_value sequence (entry_contents x) sequence_legal (omega (arith, few))
    (value_lists_append (serial_octets x.0) (time_octets x.1)
    (primitive_value_list integer (serial_contents x.0) integer-legal (number-few x.0))
    (time_is_value_list x.1))

pub entry_value_list : (x : Entry) → IsValueList (entry_octets x)
entry_value_list x = (1, entry_value x)
