-- What a call leaves in a writer.
use Rattle.std.specs.Prelude.{◌≡◌, ◌<◌, ◌^◌, ℕ, Bool, List, ◌∷◌, ◌++◌, length, MatchResult, Option, Result}
use Rattle.std.specs.Io.KnownBytes.{Appends}
use Rattle.rpki_der.specs.TagName.{TagName}
use Rattle.rpki_der.specs.Header.{tlv}

-- of these octets all but the rest was written
abbrev pub AppendsAllBut : Option (List ℕ) → Option (List ℕ) → List ℕ → List ℕ → Type 0
AppendsAllBut old new octets rest = (front : List ℕ) × (octets ≡ front ++ rest) × Appends old new front

-- a beginning of the octets was written
unfoldable pub AppendsBeginning : Option (List ℕ) → Option (List ℕ) → List ℕ → Type 0
AppendsBeginning old new octets = (rest : List ℕ) × AppendsAllBut old new octets rest

-- a beginning of the octets was written, and not all
pub record AppendsCut (old new : Option (List ℕ)) (octets : List ℕ) : Type 0 where
  pub next : ℕ
  pub more : List ℕ
  pub front : AppendsAllBut old new octets (next ∷ more)

-- all of the octets at `Ok`, a beginning of them at `Err`
abbrev pub Writes : {U E : Type 0} → Option (List ℕ) → Option (List ℕ) → Result U E → List ℕ → Type 0
Writes old new result octets = MatchResult result (λ _. Appends old new octets) (λ _. AppendsBeginning old new octets)

-- all of the octets at `Ok`, a beginning of them and not all at `Err`
abbrev pub WritesOrCuts : {U E : Type 0} → Option (List ℕ) → Option (List ℕ) → Result U E → List ℕ → Type 0
WritesOrCuts old new result octets = MatchResult result (λ _. Appends old new octets) (λ _. AppendsCut old new octets)

-- values with these octets, each of which is short, can be written as the contents of a value of this tag and form
abbrev pub FitInside : Type 0 → List ℕ → TagName → Bool → Type 0
FitInside short octets t f = (short × (length octets < 2 ^ 32)) × (length (tlv t f octets) < 2 ^ 63)
