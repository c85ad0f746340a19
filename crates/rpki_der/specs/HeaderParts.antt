-- The parts of a header, and what a reader of one returns. Only the contracts between the readers of headers say it; no
-- public contract does.
use Rattle.std.specs.Prelude.{◌≡◌, ℕ, ◌/◌, ◌%◌, ◌^◌, ◌<◌, ◌≤◌, ◌⊎◌, List, [], ◌∷◌, ◌++◌, length, Result, Ok, Err}
use Rattle.rpki_der.specs.declared.error.DecodeError.{DecodeError}
use Rattle.rpki_der.specs.declared.error.DecodeError.TheVariants.{Truncated}
use Rattle.rpki_der.specs.Header.{digits, length_octets}
use Rattle.rpki_der.specs.Reading.{Accepts, Refuses, IsCut}

-- the octets after the first identifier octet: the number of a tag, of 31 or more (X.690 8.1.2.4.2)
pub record SpellsTagNumber (n : ℕ) (p : List ℕ) : Type 0 where
  pub low : 31 ≤ n
  pub high : n < 2 ^ 28
  pub octets : p ≡ digits 128 128 3 (n / 128) ++ (n % 128) ∷ []

-- length octets (X.690 8.1.3, 10.1)
pub record SpellsLength (n : ℕ) (p : List ℕ) : Type 0 where
  pub fits : n < 2 ^ 32
  pub octets : p ≡ length_octets n

-- the octets after the first length octet: so many write a length of 128 or more (X.690 8.1.3.5, 10.1)
pub record SpellsLongLength (count n : ℕ) (p : List ℕ) : Type 0 where
  pub low : 128 ≤ n
  pub fits : n < 2 ^ 32
  pub octets : p ≡ digits 256 0 4 n
  pub counted : length p ≡ count

-- the fault of octets that no such part begins: Truncated where they are a proper beginning of one, else this
abbrev pub IsPartFault : {V : Type 0} → (V → List ℕ → Type 0) → DecodeError → List ℕ → DecodeError → Type 0
IsPartFault G bad s e = ((e ≡ Truncated) × IsCut G s) ⊎ ((e ≡ bad) × (IsCut G s → ⊥))

-- A reader of such a part found s. Its result x stands for a value and the rest.
abbrev pub ReadsPart : {X V : Type 0} → (X → V × List ℕ) → (V → List ℕ → Type 0) → DecodeError → List ℕ
    → Result X DecodeError → Type 0
ReadsPart view G bad s (Ok x) = Accepts G s (view x).0 (view x).1
ReadsPart view G bad s (Err e) = Refuses G s × IsPartFault G bad s e
