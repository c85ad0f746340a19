-- The long forms of lengths and of tag numbers, as X.690 words them. Header.antt has the same as functions; the laws
-- `lengths_in_shortest_form` and `identifiers_in_shortest_form` say that they agree.
use Rattle.std.specs.Prelude.{◌≡◌, ℕ, Bool, ◌+◌, ◌*◌, ◌^◌, ◌<◌, ◌≤◌, ◌⊎◌, List, [], ◌∷◌, length}
use Rattle.rpki_der.specs.TagName.{TagName}
use Rattle.rpki_der.specs.Header.{lead}

-- the number that digits write in a base, the most significant first
abbrev pub number_in : ℕ → List ℕ → ℕ
number_in base [] = 0
number_in base (d ∷ ds) = d * base ^ length ds + number_in base ds

-- each is a digit of the base
abbrev pub AreDigits : ℕ → List ℕ → Type 0
AreDigits base [] = Unit {0}
AreDigits base (d ∷ ds) = (d < base) × AreDigits base ds

-- digits that write the number, as few as can be
pub record IsShortest (base n : ℕ) (ds : List ℕ) : Type 0 where
  pub digits : AreDigits base ds
  pub value : number_in base ds ≡ n
  pub few : (es : List ℕ) → AreDigits base es → number_in base es ≡ n → length ds ≤ length es

-- Length octets in the definite form: the length itself where it is below 128; else an octet that counts those that
-- follow, with bit 8 set, and the fewest octets that write the length (X.690 8.1.3.4, 8.1.3.5, 10.1).
abbrev pub IsLengthForm : ℕ → List ℕ → Type 0
IsLengthForm n p = ((n < 128) × (p ≡ n ∷ [])) ⊎ ((128 ≤ n) × (ds : List ℕ) × IsShortest 256 n ds
    × (p ≡ (128 + length ds) ∷ ds))

-- digits of base 128 as octets: bit 8 of each but the last is set
abbrev pub continued : List ℕ → List ℕ
continued [] = []
continued (d ∷ []) = d ∷ []
continued (d ∷ e ∷ ds) = (128 + d) ∷ continued (e ∷ ds)

-- Identifier octets: the number of the tag in the low five bits of the first octet where it is below 31; else these
-- bits are all set, and the fewest octets that write the number follow, seven bits in each (X.690 8.1.2.2, 8.1.2.4).
abbrev pub IsIdentifierForm : TagName → Bool → List ℕ → Type 0
IsIdentifierForm t f p = ((t.number < 31) × (p ≡ lead t f t.number ∷ []))
    ⊎ ((31 ≤ t.number) × (ds : List ℕ) × IsShortest 128 t.number ds × (p ≡ lead t f 31 ∷ continued ds))
