-- What is noted of pairs, as of files with their octets: for each pair either something is right, or a note is added.
use Rattle.std.specs.Prelude.{◌⊎◌, List, [], ◌∷◌}
use Rattle.std.specs.List.{Contains}

-- of one of the elements P is true
abbrev pub Noted : {V : Type 0} → (V → Type 0) → List V → Type 0
Noted {V} P vs = (v : V) × Contains vs v × P v

-- all of these are among those
abbrev pub Within : {V : Type 0} → List V → List V → Type 0
Within {V} old new = (v : V) → Contains old v → Contains new v

-- what is added is such that P is true of it
abbrev pub AddsOnly : {V : Type 0} → (V → Type 0) → List V → List V → Type 0
AddsOnly {V} P old new = (v : V) → Contains new v → Contains old v ⊎ P v

-- of one of the pairs, each of an element of the one list and that of the other at its place
abbrev pub AnyPair : {A B : Type 0} → (A → B → Type 0) → List A → List B → Type 0
AnyPair P [] ys = ⊥
AnyPair P (a ∷ xs) [] = ⊥
AnyPair P (a ∷ xs) (b ∷ ys) = P a b ⊎ AnyPair P xs ys

-- of each of them
abbrev pub EachPair : {A B : Type 0} → (A → B → Type 0) → List A → List B → Type 0
EachPair P [] ys = Unit {0}
EachPair P (a ∷ xs) [] = Unit {0}
EachPair P (a ∷ xs) (b ∷ ys) = P a b × EachPair P xs ys

-- Each note that is added is of a pair; for each pair that isn't right there is one; and none is taken away.
pub record Notes {A B V : Type 0} (Right : A → B → Type 0) (Note : A → B → V → Type 0) (xs : List A) (ys : List B)
    (old new : List V) : Type 0 where
  pub each : AddsOnly (λ v. AnyPair (λ a b. Note a b v) xs ys) old new
  pub all : EachPair (λ a b. Right a b ⊎ Noted (Note a b) new) xs ys
  pub kept : Within old new
