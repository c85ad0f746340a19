-- Parts, in sequence, as the contents of a SEQUENCE are (X.690 8.9).
use Rattle.std.specs.Prelude.{◌≡◌, ℕ, List, ◌++◌, Option, Some, None}

-- a spelling of a, and then one of b
pub record SpellsBoth {A B : Type 0} (G : A → List ℕ → Type 0) (H : B → List ℕ → Type 0) (a : A) (b : B)
    (p : List ℕ) : Type 0 where
  pub first : List ℕ
  pub second : List ℕ
  pub parts : p ≡ first ++ second
  pub one : G a first
  pub two : H b second

-- The same of a pair: by it the parts of any number are said, as Then G (Then H J).
abbrev pub Then : {A B : Type 0} → (A → List ℕ → Type 0) → (B → List ℕ → Type 0) → A × B → List ℕ → Type 0
Then G H x p = SpellsBoth G H x.0 x.1 p

-- The same where the first part may be left out, and then stands for None.
abbrev pub OptionalThen : {A B : Type 0} → (A → List ℕ → Type 0) → (B → List ℕ → Type 0) → Option A × B → List ℕ
    → Type 0
OptionalThen G H (None, b) p = H b p
OptionalThen G H (Some a, b) p = SpellsBoth G H a b p

-- what an optional reader's result stands for
abbrev pub optional_of : {X V : Type 0} → (X → V) → Option X → Option V
optional_of view None = None
optional_of view (Some x) = Some (view x)
