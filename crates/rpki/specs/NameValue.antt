-- Where the value of an attribute begins in a name: a reader of names allocates there, and nowhere before.
use Rattle.std.specs.Prelude.{◌≡◌, ℕ, List, ◌++◌}
use Rattle.rpki_der.specs.Prelude.{sequence, set, HasInside, HasEither}
use Rattle.rpki.specs.Name.{Attribute, IsIdentifierThen, SpellsAttribute, SpellsRelative, SpellsEach}

-- spellings of values, in sequence, and then a list that has P
abbrev pub HasAfter : {V : Type 0} → (V → List ℕ → Type 0) → (List ℕ → Type 0) → List ℕ → Type 0
HasAfter {V} G P s = (vs : List V) × (front : List ℕ) × (rest : List ℕ) × SpellsEach G vs front × (s ≡ front ++ rest)
    × P rest

-- an OBJECT IDENTIFIER, and a value after it, with any contents
abbrev pub IdentifiesValue : List ℕ → Type 0
IdentifiesValue c = (a : Attribute) × IsIdentifierThen a c × HasEither a.value

-- s begins with an attribute as far as its value
abbrev pub HasAttributeValue : List ℕ → Type 0
HasAttributeValue = HasInside sequence IdentifiesValue

-- the same of a relative distinguished name: of one of its attributes
abbrev pub HasRelativeValue : List ℕ → Type 0
HasRelativeValue = HasInside set (HasAfter SpellsAttribute HasAttributeValue)

-- and of a name
abbrev pub HasNameValue : List ℕ → Type 0
HasNameValue = HasInside sequence (HasAfter SpellsRelative HasRelativeValue)
