-- What the encoders of leaf values write is read as what was written, and equal octets are written of equal values.
use Rattle.std.specs.Prelude.{ℕ, Bool, false, ◌≡◌, ◌↔◌, ◌+◌, ◌^◌, ◌<◌, List, length}
use Rattle.rpki_der.specs.TagName.{boolean, integer, bit_string, octet_string, null, oid}
use Rattle.rpki_der.specs.Header.{tlv}
use Rattle.rpki_der.specs.Values.{SpellsLeaf, SpellsContents}
use Rattle.rpki_der.specs.Leaves.{Bits, AreBits, IsBits, IsNull, IsBoolean, IsOid, IsOidOf, boolean_contents}
use Rattle.rpki_der.specs.Number.{number_of}
use Rattle.rpki_der.specs.Integer.{IsUnsigned, IsMagnitude, unsigned_contents}
use Rattle.rpki_der.specs.Contents.{null_contents, oid_contents, octet_string_contents, bits_contents}

-- ---- what is written is read as itself

abbrev pub NullReadBack : Type 0
NullReadBack = SpellsLeaf null false IsNull tt (tlv null false (null_contents tt))

abbrev pub BooleansReadBack : Type 0
BooleansReadBack = (b : Bool) → SpellsLeaf boolean false IsBoolean b (tlv boolean false (boolean_contents b))

abbrev pub NumbersReadBack : Type 0
NumbersReadBack = (octets : List ℕ) → IsMagnitude octets → length octets + 1 < 2 ^ 32
    → SpellsLeaf integer false IsUnsigned (number_of octets) (tlv integer false (unsigned_contents octets))

abbrev pub IdentifiersReadBack : Type 0
IdentifiersReadBack = (octets : List ℕ) → IsOid octets → length octets < 2 ^ 32
    → SpellsLeaf oid false IsOidOf octets (tlv oid false (oid_contents octets))

abbrev pub OctetsReadBack : Type 0
OctetsReadBack = (octets : List ℕ) → length octets < 2 ^ 32
    → SpellsContents octet_string false octets (tlv octet_string false (octet_string_contents octets))

abbrev pub BitsReadBack : Type 0
BitsReadBack = (b : Bits) → AreBits b → length b.octets + 1 < 2 ^ 32
    → SpellsLeaf bit_string false IsBits b (tlv bit_string false (bits_contents b))

-- ---- equal octets are written of equal values

abbrev pub BooleansApart : Type 0
BooleansApart = (a b : Bool) → (tlv boolean false (boolean_contents a) ≡ tlv boolean false (boolean_contents b))
    ↔ (a ≡ b)

abbrev pub NumbersApart : Type 0
NumbersApart = (a b : List ℕ) → IsMagnitude a → IsMagnitude b → length b + 1 < 2 ^ 32
    → (tlv integer false (unsigned_contents a) ≡ tlv integer false (unsigned_contents b)) ↔ (a ≡ b)

abbrev pub IdentifiersApart : Type 0
IdentifiersApart = (a b : List ℕ) → length b < 2 ^ 32
    → (tlv oid false (oid_contents a) ≡ tlv oid false (oid_contents b)) ↔ (a ≡ b)

abbrev pub OctetsApart : Type 0
OctetsApart = (a b : List ℕ) → length b < 2 ^ 32
    → (tlv octet_string false (octet_string_contents a) ≡ tlv octet_string false (octet_string_contents b)) ↔ (a ≡ b)

-- other bits have the same encoding exactly where they are the same
abbrev pub AreBitsApart : Bits → Type 0
AreBitsApart a = (b : Bits) → length (bits_contents b) < 2 ^ 32
    → (tlv bit_string false (bits_contents a) ≡ tlv bit_string false (bits_contents b)) ↔ (a ≡ b)

abbrev pub BitsApart : Type 0
BitsApart = (a : Bits) → AreBitsApart a
