-- Names: a SEQUENCE of relative distinguished names, each a SET of attributes (RFC 5280 4.1.2.4, X.501 9.2).
use Rattle.std.specs.Prelude.{◌≡◌, ℕ, true, false, List, ◌++◌}
use Rattle.rpki_der.specs.Prelude.{oid, sequence, set, SpellsLeaf, IsOidOf, IsValue}
pub use Rattle.rpki_der.specs.Each.{SpellsEach, SpellsSome}

-- an attribute: the contents octets of its identifier, and the octets of its value
pub record Attribute : Type 0 where
  pub identifier : List ℕ
  pub value : List ℕ

abbrev pub attribute_of : List ℕ → List ℕ → Attribute
attribute_of identifier value = record { identifier = identifier; value = value }

-- an OBJECT IDENTIFIER, and any octets after it
pub record IsIdentifierThen (a : Attribute) (c : List ℕ) : Type 0 where
  pub front : List ℕ
  pub parts : c ≡ front ++ a.value
  pub identifier : SpellsLeaf oid false IsOidOf a.identifier front

-- the attribute of these two, by the rest of them
abbrev pub attribute_left : {C : Type 0} → (C → List ℕ) → C × C → Attribute
attribute_left octets x = attribute_of (octets x.0) (octets x.1)

-- a SEQUENCE of the two
abbrev pub SpellsIdentifierThen : Attribute → List ℕ → Type 0
SpellsIdentifierThen = SpellsLeaf sequence true IsIdentifierThen

-- an OBJECT IDENTIFIER, and one value after it
pub record IsAttribute (a : Attribute) (c : List ℕ) : Type 0 where
  pub identified : IsIdentifierThen a c
  pub one : IsValue a.value

-- an attribute
abbrev pub SpellsAttribute : Attribute → List ℕ → Type 0
SpellsAttribute = SpellsLeaf sequence true IsAttribute

-- a relative distinguished name: a SET of attributes, in any order
abbrev pub SpellsRelative : List Attribute → List ℕ → Type 0
SpellsRelative = SpellsLeaf set true (SpellsSome SpellsAttribute)

-- a name: a SEQUENCE of relative distinguished names
abbrev pub SpellsName : List (List Attribute) → List ℕ → Type 0
SpellsName = SpellsLeaf sequence true (SpellsSome SpellsRelative)

-- these octets are a name
abbrev pub IsName : List ℕ → Type 0
IsName octets = (parts : List (List Attribute)) × SpellsName parts octets

-- the grammar of names: a name stands for its own octets
pub record SpellsNameOctets (v p : List ℕ) : Type 0 where
  pub same : p ≡ v
  pub named : IsName v
