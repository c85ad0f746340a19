-- The files of a machine in memory, and what its calls do to them.
use Rattle.std.specs.Prelude.{◌≡◌, ◌≢◌, ℕ, List, [], Option, Some, None, String, Vec}
use Rattle.std.specs.Option.{option_map, unwrap_or}
use Rattle.std.specs.BTreeMap.{BTreeMap, get_by_text}

module _ {Y Z : Type 0} where
  -- the octets at each name
  abbrev pub files_of : BTreeMap (String Y) (Vec ℕ Z) → List ℕ → Option (List ℕ)
  files_of m n = option_map (λ v. v.items) (get_by_text m n)

  -- each name has what it had
  abbrev pub AreKept : BTreeMap (String Y) (Vec ℕ Z) → BTreeMap (String Y) (Vec ℕ Z) → Type 0
  AreKept old new = (n : List ℕ) → files_of new n ≡ files_of old n

  -- a new file has the text, and each other name has what it had
  pub record IsPut (old new : BTreeMap (String Y) (Vec ℕ Z)) (name other beside text : List ℕ) : Type 0 where
    pub fresh : files_of old beside ≡ None
    pub apart : name ≢ beside
    pub other_apart : other ≢ beside
    pub there : files_of new beside ≡ Some text
    pub others : (n : List ℕ) → n ≢ beside → files_of new n ≡ files_of old n

  -- one name's file has become another's
  pub record IsCarried (old new : BTreeMap (String Y) (Vec ℕ Z)) (from to : List ℕ) : Type 0 where
    pub there : files_of new to ≡ files_of old from
    pub gone : from ≢ to → files_of new from ≡ None
    pub others : (n : List ℕ) → n ≢ from → n ≢ to → files_of new n ≡ files_of old n

  -- the octets at a name, or none
  abbrev pub octets_in : BTreeMap (String Y) (Vec ℕ Z) → List ℕ → List ℕ
  octets_in m n = unwrap_or (files_of m n) []

  -- the name has the text, and each other name has what it had
  pub record IsSet (old new : BTreeMap (String Y) (Vec ℕ Z)) (name text : List ℕ) : Type 0 where
    pub there : files_of new name ≡ Some text
    pub others : (n : List ℕ) → n ≢ name → files_of new n ≡ files_of old n
