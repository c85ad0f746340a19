-- The attributes of a name in sequence, each with whether it begins a relative distinguished name.
use Rattle.std.specs.Prelude.{◌≡◌, ◌+◌, ℕ, Bool, true, false, List, [], ◌∷◌, ◌++◌, Option, Some, None, length, map}
use Rattle.std.specs.List.{flat_map}
use Rattle.rpki_der.specs.Prelude.{SpellsContents}
use Rattle.rpki.specs.declared.repository.x509.name.attributes.AttributeView.{AttributeView}
use Rattle.rpki.specs.Name.{Attribute, SpellsAttribute, SpellsRelative, SpellsEach}

-- an attribute, and whether it is the first of its relative distinguished name
pub record MarkedAttribute : Type 0 where
  pub attribute : Attribute
  pub begins : Bool

abbrev pub marked : Bool → Attribute → MarkedAttribute
marked begins attribute = record { attribute = attribute; begins = begins }

-- attributes that begin none
abbrev pub following : List Attribute → List MarkedAttribute
following xs = map (marked false) xs

-- the attributes of a relative distinguished name
abbrev pub marked_relative : List Attribute → List MarkedAttribute
marked_relative [] = []
marked_relative (x ∷ xs) = marked true x ∷ following xs

-- the attributes of a name, in order
abbrev pub marked_attributes : List (List Attribute) → List MarkedAttribute
marked_attributes parts = flat_map marked_relative parts

-- The rest of a name: the octets of further attributes of a relative distinguished name, and those of the relative
-- distinguished names after it.
pub record NameRest : Type 0 where
  pub attributes : List ℕ
  pub relatives : List ℕ

abbrev pub rest_of : List ℕ → List ℕ → NameRest
rest_of attributes relatives = record { attributes = attributes; relatives = relatives }

-- how many octets that is
abbrev pub rest_size : NameRest → ℕ
rest_size s = length s.attributes + length s.relatives

-- these attributes remain
pub record AreLeft (s : NameRest) (xs : List MarkedAttribute) : Type 0 where
  pub begun : List Attribute
  pub parts : List (List Attribute)
  pub attributes : SpellsEach SpellsAttribute begun s.attributes
  pub relatives : SpellsEach SpellsRelative parts s.relatives
  pub all : xs ≡ following begun ++ marked_attributes parts

-- The view is of this attribute. A value has one tag, one form, and these contents.
pub record IsViewOf (v : AttributeView) (x : MarkedAttribute) : Type 0 where
  pub identifier : v.identifier.0.now ≡ x.attribute.identifier
  pub value : v.value.now ≡ x.attribute.value
  pub contents : SpellsContents v.tag v.constructed v.contents.now x.attribute.value
  pub begins : v.begins ≡ x.begins

-- Of the remaining attributes the first was given, and the others remain now; none was given where none was.
abbrev pub GivesAttribute : List MarkedAttribute → Option AttributeView → NameRest → Type 0
GivesAttribute [] None after = AreLeft after []
GivesAttribute [] (Some v) after = ⊥
GivesAttribute (x ∷ xs) None after = ⊥
GivesAttribute (x ∷ xs) (Some v) after = IsViewOf v x × AreLeft after xs
