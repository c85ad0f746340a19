-- The values of a card's properties, by their kind.
use Rattle.std.specs.Prelude.{ℕ, Bool, List, [], ◌∷◌, if◌then◌else◌, eqb}
use Rattle.std.specs.List.{flat_map}
use Rattle.rpki_records.specs.declared.card_property.PropertyKind.{PropertyKind}
use Rattle.rpki_records.specs.declared.card_property.PropertyKind.TheVariants as K
use Rattle.rpki_records.specs.Card.{FoundCard, FoundProperty, given_property_at}
use Rattle.rpki_records.specs.Words.{firsts}

abbrev pub kind_number : PropertyKind → ℕ
kind_number K.Name = 0
kind_number K.Organization = 1
kind_number K.Address = 2
kind_number K.Telephone = 3
kind_number K.Email = 4

abbrev pub is_kind : PropertyKind → PropertyKind → Bool
is_kind x y = eqb (kind_number x) (kind_number y)

-- the value of a property of this kind
abbrev pub value_of : PropertyKind → FoundProperty → List (List ℕ)
value_of k p = if is_kind k p.kind then p.value ∷ [] else []

-- the properties of a card
abbrev pub properties : FoundCard → List FoundProperty
properties x = firsts given_property_at x.count x.lines

-- the values of those of this kind, in order
abbrev pub values_in : PropertyKind → FoundCard → List (List ℕ)
values_in k x = flat_map (value_of k) (properties x)
