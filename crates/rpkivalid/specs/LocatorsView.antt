-- What clauses see of a locator and its name.
use Rattle.std.specs.Prelude.{◌≡◌, ◌++◌, ℕ, Bool, List, [], ◌∷◌, true, false, bytes_eq, string_bytes}
use Rattle.std.specs.List.{list_any}
use Rattle.rpkivalid.specs.declared.denial.Denial.{Denial}
use Rattle.rpkivalid.specs.declared.denial.Denial.TheVariants.{OutOfMemory, SameName}
use Rattle.rpkivalid.specs.declared.locators.Named.{Named}
use Rattle.rpkivalid.specs.Denying.{IsLocatorDenialAt}
use Rattle.rpkivalid.specs.Locators.{Holds, IsLocatorIn, NamedParts, is_among, name_of, named_parts}

abbrev pub named_of : Named → NamedParts
named_of x = named_parts (string_bytes x.name) x.locator.uris.items x.locator.key

-- the locator in the file is added
abbrev pub IsNextIn : Holds → List ℕ → (old new : List Named) → Type 0
IsNextIn holds path old new = (n : Named) × IsLocatorIn holds path (named_of n) × (new ≡ old ++ n ∷ [])

-- that in the first of these files is, unless the file is among the others
abbrev pub AddsFirst : Holds → List (List ℕ) → (old new : List Named) → Type 0
AddsFirst holds [] old new = new ≡ old
AddsFirst holds (path ∷ paths) old new =
    (is_among paths path ≡ true → new ≡ old) × (is_among paths path ≡ false → IsNextIn holds path old new)

-- why none is added: of its file, or one that is there has its name
pub data IsNextDenial (holds : Holds) (path : List ℕ) (number : ℕ) (old : List Named) (among : Bool) (d : Denial)
    : Type 0 where
  OfFile : IsLocatorDenialAt holds path number d → IsNextDenial holds path number old among d
  OfOther : d ≡ SameName number → among ≡ false
      → list_any (λ one. bytes_eq (string_bytes one.name) (name_of path)) old ≡ true
      → IsNextDenial holds path number old among d
  OfMemory : d ≡ OutOfMemory → IsNextDenial holds path number old among d

-- of the first of these files
abbrev pub IsFirstDenial : Holds → List (List ℕ) → ℕ → List Named → Denial → Type 0
IsFirstDenial holds [] number old d = ⊥
IsFirstDenial holds (path ∷ paths) number old d = IsNextDenial holds path number old (is_among paths path) d
