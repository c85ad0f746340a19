-- Values whose header is two octets.
use Rattle.std.proofs.Common.{◌≡◌, ◌<◌, ◌++◌, ℕ, Bool, false, true, List, [], ◌∷◌, length, refl, lit<, arith}
use Rattle.rpki_der.specs.TagName.{TagName, IsTag, sequence, integer, bit_string, ia5_string, utc_time}
use Rattle.rpki_der.specs.Header.{identifier_octets, length_octets}
use Rattle.rpki_der.specs.Reading.{Spells}
use Rattle.rpki_der.specs.Values.{SpellsContents}
use Rattle.rpki_der.proofs.HeaderWritingLaws.{identifier-low, length-short}
use Rattle.rpki_x509.specs.Short.{IsShort}

-- a header of two octets, and then contents
module _ (t : TagName) (f : Bool) (first : ℕ) (legal : IsTag t) (lead : identifier_octets t f ≡ first ∷ []) where
  header-is : (c : List ℕ) → length c < 128
      → first ∷ length c ∷ c ≡ (identifier_octets t f ++ length_octets (length c)) ++ c
  header-is c few = rw (lead, length-short (length c) few) refl

  contents-there : (s c r : List ℕ) → IsShort first s c r → Spells (SpellsContents t f) s c r
  contents-there s c r h = record {
    front = first ∷ length c ∷ c;
    parts = h.parts;
    spelled = record { tag = legal; fits = omega (arith, h.few); octets = header-is c h.few };
  }

-- ---- of each tag that is read so

sequence-legal : IsTag sequence
sequence-legal = record { below = lit< tt; named = λ _. lit< tt }

integer-legal : IsTag integer
integer-legal = record { below = lit< tt; named = λ _. lit< tt }

bits-legal : IsTag bit_string
bits-legal = record { below = lit< tt; named = λ _. lit< tt }

text-legal : IsTag ia5_string
text-legal = record { below = lit< tt; named = λ _. lit< tt }

pub short-sequence : (s c r : List ℕ) → IsShort 48 s c r → Spells (SpellsContents sequence true) s c r
short-sequence = contents-there sequence true 48 sequence-legal (identifier-low sequence true (omega arith))

pub short-integer : (s c r : List ℕ) → IsShort 2 s c r → Spells (SpellsContents integer false) s c r
short-integer = contents-there integer false 2 integer-legal (identifier-low integer false (omega arith))

pub short-bits : (s c r : List ℕ) → IsShort 3 s c r → Spells (SpellsContents bit_string false) s c r
short-bits = contents-there bit_string false 3 bits-legal (identifier-low bit_string false (omega arith))

pub short-text : (s c r : List ℕ) → IsShort 22 s c r → Spells (SpellsContents ia5_string false) s c r
short-text = contents-there ia5_string false 22 text-legal (identifier-low ia5_string false (omega arith))

utc-legal : IsTag utc_time
utc-legal = record { below = lit< tt; named = λ _. lit< tt }

pub short-utc : (s c r : List ℕ) → IsShort 23 s c r → Spells (SpellsContents utc_time false) s c r
short-utc = contents-there utc_time false 23 utc-legal (identifier-low utc_time false (omega arith))
