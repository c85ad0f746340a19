-- The extensions of a certificate, each identifier once (RFC 5280 4.1.2.9, 4.2).
use Rattle.std.specs.Prelude.{ℕ, Bool, true, false, not, ◌&&◌, List, [], ◌∷◌, Option, Some, None, IsTrue}
use Rattle.std.specs.Prelude.{bytes_eq, if◌then◌else◌}
use Rattle.rpki_der.specs.declared.tag.Class.TheVariants.{Context}
use Rattle.rpki_der.specs.Prelude.{TagName, tag_of, sequence, SpellsLeaf, SpellsSome}
use Rattle.rpki.specs.ExtensionValue.{ExtensionParts, SpellsExtension}

-- the explicit tag around them
abbrev pub extensions_tag : TagName
extensions_tag = tag_of Context 3

-- the first extension of this identifier
abbrev pub find : List ℕ → List ExtensionParts → Option ExtensionParts
find id [] = None
find id (x ∷ xs) = if bytes_eq x.identifier id then Some x else find id xs

abbrev pub is_there : Option ExtensionParts → Bool
is_there None = false
is_there (Some x) = true

-- no two extensions have the same identifier (RFC 5280 4.2)
abbrev pub are_unique : List ExtensionParts → Bool
are_unique [] = true
are_unique (x ∷ xs) = not (is_there (find x.identifier xs)) && are_unique xs

-- one extension at least, and each identifier once
pub record AreExtensions (xs : List ExtensionParts) (c : List ℕ) : Type 0 where
  pub some : SpellsSome SpellsExtension xs c
  pub unique : IsTrue (are_unique xs)

abbrev pub SpellsExtensionList : List ExtensionParts → List ℕ → Type 0
SpellsExtensionList = SpellsLeaf sequence true AreExtensions

abbrev pub SpellsExtensions : List ExtensionParts → List ℕ → Type 0
SpellsExtensions = SpellsLeaf extensions_tag true SpellsExtensionList
