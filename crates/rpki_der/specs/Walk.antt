-- What is required of a reader of one whole value, with everything nested in it.
use Rattle.std.specs.Prelude.{◌≡◌, ◌≢◌, ◌*◌, ◌≤◌, ℕ, Bool, true, false, List, [], ◌++◌, length}
use Rattle.rpki_der.specs.TagName.{TagName}
use Rattle.rpki_der.specs.Reading.{Spells}
use Rattle.rpki_der.specs.Values.{SpellsContents}
use Rattle.rpki_der.specs.Members.{IsValue, IsValueOf}

-- something remains
abbrev pub IsNotEmpty : List ℕ → Type 0
IsNotEmpty s = s ≢ []

-- a value of this form begins s, with any contents
abbrev pub HasForm : Bool → List ℕ → Type 0
HasForm f s = (t : TagName) × (c : List ℕ) × (r : List ℕ) × Spells (SpellsContents t f) s c r

-- a value that may hold others begins s: walking it allocates
abbrev pub HasConstructed : List ℕ → Type 0
HasConstructed = HasForm true

-- a value of any form begins s: sharing it allocates
abbrev pub HasEither : List ℕ → Type 0
HasEither s = (f : Bool) × HasForm f s

-- a value begins s whose walk allocates: of any form where entries are kept, else one that may hold others
abbrev pub TakesMemory : Bool → List ℕ → Type 0
TakesMemory true s = HasEither s
TakesMemory false s = HasConstructed s

-- any one value
abbrev pub SpellsAnyValue : Unit {0} → List ℕ → Type 0
SpellsAnyValue v p = IsValue p

-- s is one value, with n headers at all depths, and then r; a header takes two octets or more
pub record CountsHeaders (s r : List ℕ) (n : ℕ) : Type 0 where
  pub value : List ℕ
  pub parts : s ≡ value ++ r
  pub headers : IsValueOf n value
  pub half : 2 * n ≤ length value
