-- Contents of leaf values (X.690 8.6, 8.8, 8.19, 11.2).
use Rattle.std.specs.Prelude.{ℕ, Bool, true, false, ◌≡◌, ◌≢◌, ◌+◌, ◌-◌, ◌%◌, ◌^◌, ◌<◌, List, [], ◌∷◌, length}
use Rattle.std.specs.Prelude.{slice_index}

-- NULL has no contents (X.690 8.8.2)
abbrev pub IsNull : Unit {0} → List ℕ → Type 0
IsNull v c = c ≡ []

-- these contents and no others
abbrev pub IsOnly : List ℕ → Unit {0} → List ℕ → Type 0
IsOnly expected v c = c ≡ expected

-- this many octets, which stand for themselves
abbrev pub IsSized : ℕ → List ℕ → List ℕ → Type 0
IsSized size octets c = (c ≡ octets) × (length c ≡ size)

-- a bit string: octets, and how many bits of the last aren't used
pub record Bits : Type 0 where
  pub unused : ℕ
  pub octets : List ℕ

-- at most 7 bits, none where there is no octet, and all of them zero (X.690 8.6.2, 11.2.1)
pub record AreBits (b : Bits) : Type 0 where
  pub few : b.unused < 8
  pub none : b.octets ≡ [] → b.unused ≡ 0
  pub zero : slice_index b.octets (length b.octets - 1) % 2 ^ b.unused ≡ 0

-- the count, and then the octets (X.690 8.6.2.1)
pub record IsBits (b : Bits) (c : List ℕ) : Type 0 where
  pub legal : AreBits b
  pub contents : c ≡ b.unused ∷ b.octets

abbrev pub bits_of : ℕ → List ℕ → Bits
bits_of unused octets = record { unused = unused; octets = octets }

-- one octet, all of whose bits are 1 for true and 0 for false (X.690 8.2.2, 11.1)
abbrev pub boolean_contents : Bool → List ℕ
boolean_contents true = 255 ∷ []
boolean_contents false = 0 ∷ []

abbrev pub IsBoolean : Bool → List ℕ → Type 0
IsBoolean b c = c ≡ boolean_contents b

-- Contents of an OBJECT IDENTIFIER: subidentifiers, in sequence. The last octet of each has the top bit clear and
-- its other octets have it set, and none begins with 80 (X.690 8.19.2).
pub record IsOid (c : List ℕ) : Type 0 where
  pub nonempty : 0 < length c
  pub ends : slice_index c (length c - 1) < 128
  pub first : slice_index c 0 ≢ 128
  pub shortest : (i : ℕ) → i + 1 < length c → slice_index c i < 128 → slice_index c (i + 1) ≢ 128

-- the contents of the identifier with these octets
abbrev pub IsOidOf : List ℕ → List ℕ → Type 0
IsOidOf octets c = (c ≡ octets) × IsOid c

-- the contents of an identifier, whichever it is
abbrev pub IsAnyOid : Unit {0} → List ℕ → Type 0
IsAnyOid v c = IsOid c
