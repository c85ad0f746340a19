-- Serial numbers: unsigned INTEGERs of at most 20 contents octets (RFC 5280 4.1.2.2, X.690 8.3).
use Rattle.std.specs.Prelude.{◌≡◌, ◌⊎◌, ◌≤◌, ◌<◌, ◌/◌, ◌%◌, nat_lt, if◌then◌else◌, ℕ, zero, suc, false, List, [], ◌∷◌}
use Rattle.std.specs.Prelude.{◌++◌, length, slice_index, codes}
use Rattle.rpki_der.specs.declared.error.DecodeError.{DecodeError}
use Rattle.rpki_der.specs.declared.error.DecodeError.TheVariants.{Truncated, BadTag, BadLength, Unexpected, Content}
use Rattle.rpki_der.specs.declared.error.DecodeError.TheVariants.{Trailing, OutOfMemory}
use Rattle.rpki_der.specs.Prelude.{text_of, integer, tlv, IsUnsigned, Spells, SpellsLeaf, IsLeafFault, Format}

-- octets that no serial number is made of: more than 20, or 20 of them with the first bit set
abbrev pub IsLong : List ℕ → Type 0
IsLong octets = (20 < length octets) ⊎ ((length octets ≡ 20) × (128 ≤ slice_index octets 0))

-- the contents of a serial number: those of an unsigned INTEGER, at most 20 octets
abbrev pub IsSerialContents : ℕ → List ℕ → Type 0
IsSerialContents n contents = IsUnsigned n contents × (length contents ≤ 20)

-- a serial number as a value
abbrev pub SpellsSerial : ℕ → List ℕ → Type 0
SpellsSerial = SpellsLeaf integer false IsSerialContents

-- the contents of the INTEGER of a number, at most k octets: a number below 128 is one octet, with the first bit 0;
-- any other is what is written of its 256th part, and its last octet (X.690 8.3.2, 8.3.3)
unfoldable pub contents_within : ℕ → ℕ → List ℕ
contents_within zero n = []
contents_within (suc k) n = if nat_lt n 128 then n ∷ [] else contents_within k (n / 256) ++ (n % 256) ∷ []

-- the contents of the INTEGER of a number below 2 ^ 159
abbrev pub serial_contents : ℕ → List ℕ
serial_contents n = contents_within 20 n

-- what is written of a serial number
abbrev pub serial_octets : ℕ → List ℕ
serial_octets n = tlv integer false (serial_contents n)

-- an unsigned INTEGER of more octets has an error text of its own
abbrev pub TellsLong : List ℕ → DecodeError → Type 0
TellsLong s (Content e) = (n : ℕ) (r : List ℕ) → Spells (SpellsLeaf integer false IsUnsigned) s n r
    → text_of e ≡ codes "serial number longer than 20 bytes"
TellsLong s Truncated = Unit {0}
TellsLong s BadTag = Unit {0}
TellsLong s BadLength = Unit {0}
TellsLong s Unexpected = Unit {0}
TellsLong s Trailing = Unit {0}
TellsLong s OutOfMemory = Unit {0}

-- the first error of a reader of a serial number: that of an INTEGER; Content where it is negative or longer
abbrev pub IsSerialFault : List ℕ → DecodeError → Type 0
IsSerialFault s e = IsLeafFault integer false IsSerialContents s e × TellsLong s e

abbrev pub serial_number : Format ℕ
serial_number = record { spells = SpellsSerial; fault = IsSerialFault }
