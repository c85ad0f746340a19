-- Algorithm identifiers (RFC 5280 4.1.1.2): an object identifier and perhaps parameters.
use Rattle.std.specs.Prelude.{ℕ, Bool, true, false, ◌≡◌, List, [], ◌++◌}
use Rattle.rpki_der.specs.Prelude.{oid, null, sequence, SpellsLeaf, IsNull, IsOnly}

-- a NULL where there are parameters
abbrev pub IsParameters : Bool → List ℕ → Type 0
IsParameters true p = SpellsLeaf null false IsNull tt p
IsParameters false p = p ≡ []

-- the identifier, and then the parameters
pub record IsIdentified (o : List ℕ) (present : Bool) (c : List ℕ) : Type 0 where
  pub first : List ℕ
  pub second : List ℕ
  pub parts : c ≡ first ++ second
  pub identifier : SpellsLeaf oid false (IsOnly o) tt first
  pub parameters : IsParameters present second

-- the algorithm identifier of this object identifier, with parameters or without
abbrev pub SpellsAlgorithm : List ℕ → Bool → List ℕ → Type 0
SpellsAlgorithm o = SpellsLeaf sequence true (IsIdentified o)
