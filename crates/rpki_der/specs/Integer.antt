-- Contents of a non-negative INTEGER (X.690 8.3).
use Rattle.std.specs.Prelude.{◌≡◌, ℕ, ◌≤◌, ◌<◌, ◌⊎◌, nat_lt, if◌then◌else◌, List, ◌∷◌, length, slice_index}
use Rattle.rpki_der.specs.Number.{number_of, AreOctets}

-- octets that write the number as an INTEGER: at least one, and the first bit, that of the sign, is 0 (X.690 8.3.3)
pub record WritesNumber (n : ℕ) (c : List ℕ) : Type 0 where
  pub octets : AreOctets c
  pub value : number_of c ≡ n
  pub nonempty : 0 < length c
  pub first_bit : slice_index c 0 < 128

-- the shortest such octets: the contents of the INTEGER (X.690 8.3.2)
pub record IsUnsigned (n : ℕ) (c : List ℕ) : Type 0 where
  pub writes : WritesNumber n c
  pub shortest : (d : List ℕ) → WritesNumber n d → length c ≤ length d

-- the same of a number below the bound
pub record IsUnsignedBelow (bound n : ℕ) (c : List ℕ) : Type 0 where
  pub below : n < bound
  pub contents : IsUnsigned n c

-- the contents of the INTEGER of this number and no other
abbrev pub IsNumber : ℕ → Unit {0} → List ℕ → Type 0
IsNumber n v c = IsUnsigned n c

-- octets with the first bit 0 of which none can be left out: at least one, and the first nine bits aren't all 0
pub record IsMinimal (c : List ℕ) : Type 0 where
  pub nonempty : 0 < length c
  pub first_bit : slice_index c 0 < 128
  pub nine_bits : (1 < length c) → (0 < slice_index c 0) ⊎ (128 ≤ slice_index c 1)

-- a number's own octets, without a bit for the sign: no leading zero, but for zero itself, which is one octet
pub record IsMagnitude (octets : List ℕ) : Type 0 where
  pub each : AreOctets octets
  pub nonempty : 0 < length octets
  pub no_zero_in_front : (1 < length octets) → 0 < slice_index octets 0

-- the contents of the INTEGER of these octets: a zero octet in front of a first bit 1
abbrev pub unsigned_contents : List ℕ → List ℕ
unsigned_contents octets = if nat_lt (slice_index octets 0) 128 then octets else 0 ∷ octets
