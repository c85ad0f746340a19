-- Lemmas that an impl cites: the tags, and that an INTEGER is short.
use Rattle.std.specs.Prelude.{◌<◌, ◌^◌, ℕ, false, length}
use Rattle.std.proofs.Common.{arith, lit<}
use Rattle.rpki_der.specs.Prelude.{IsTag, integer}
use Rattle.rpki_der.proofs.EncodeLaws.{tlv-at-least}
use Rattle.rpki_time.specs.Serial.{serial_contents}
use Rattle.rpki_time.proofs.SerialReadingLaws.{serial-few}
use Rattle.rpki_x509.specs.Tag.{zero_tag}

pub zero_legal : IsTag zero_tag
zero_legal = record { below = lit< tt; named = λ e. absurd (cc) }

pub integer-legal : IsTag integer
integer-legal = record { below = lit< tt; named = λ _. lit< tt }

pub number-few : (n : ℕ) → length (serial_contents n) < 2 ^ 32
number-few n = let few = serial-few n in omega (arith, tlv-at-least integer false (serial_contents n))
