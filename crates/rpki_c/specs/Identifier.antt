-- Algorithm identifiers of any algorithm (RFC 5280 4.1.1.2): an object identifier and perhaps parameters, of which the
-- algorithm says what they are.
use Rattle.std.specs.Prelude.{◌≡◌, ◌⊎◌, ℕ, Bool, true, false, List, [], ◌++◌}
use Rattle.rpki_der.specs.TagName.{TagName, oid, sequence}
use Rattle.rpki_der.specs.Reading.{Spells, Refuses, Finds}
use Rattle.rpki_der.specs.Values.{SpellsContents, SpellsLeaf}
use Rattle.rpki_der.specs.WantedValue.{SpellsWanted, IsAnyTag}
use Rattle.rpki_der.specs.Leaves.{IsOidOf}
use Rattle.rpki_der.specs.Members.{SpellsValue}

-- no parameters, or one value of any tag, of any form and with any contents
abbrev pub AreParameters : List ℕ → Type 0
AreParameters p = (p ≡ []) ⊎ ((x : TagName × Bool × List ℕ) × SpellsWanted IsAnyTag x p)

-- the object identifier, and then the parameters
pub record IsNamed (o c : List ℕ) : Type 0 where
  pub first : List ℕ
  pub second : List ℕ
  pub parts : c ≡ first ++ second
  pub identifier : SpellsLeaf oid false IsOidOf o first
  pub parameters : AreParameters second

-- an algorithm identifier of this object identifier
abbrev pub SpellsIdentifier : List ℕ → List ℕ → Type 0
SpellsIdentifier = SpellsLeaf sequence true IsNamed

-- an algorithm identifier begins s, and none of those that G spells does
pub record IsOther {A : Type 0} (G : A → List ℕ → Type 0) (s : List ℕ) : Type 0 where
  pub some : Finds SpellsIdentifier s
  pub none : Refuses G s

-- the contents of a SEQUENCE at the front of s are as P says
pub record HoldsFirst (P : List ℕ → Type 0) (s : List ℕ) : Type 0 where
  pub contents : List ℕ
  pub rest : List ℕ
  pub begins : Spells (SpellsContents sequence true) s contents rest
  pub inner : P contents

-- a value begins s, and what follows it is as P says
pub record FollowsValue (P : List ℕ → Type 0) (s : List ℕ) : Type 0 where
  pub value : List ℕ
  pub rest : List ℕ
  pub begins : Spells SpellsValue s value rest
  pub follows : P rest
