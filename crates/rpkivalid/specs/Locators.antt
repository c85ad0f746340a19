-- The locators that are asked for.
use Rattle.std.specs.Prelude.{◌≡◌, ℕ, Bool, List, [], ◌∷◌, bytes_eq, if◌then◌else◌, map, Option, Some, IfSome}
use Rattle.std.specs.List.{list_any}
use Rattle.std.specs.Path.{path_file_stem}
use Rattle.std.specs.Option.{unwrap_or}
use Rattle.rpki.specs.PublicKey.{KeyParts}
use Rattle.rpki_locator.specs.declared.anchor_uri.AnchorUri.{AnchorUri}
use Rattle.rpki_locator.specs.Locator.{IsLocator, uri_text}

-- what there is by a path: the octets, or None where there is no file; or nothing is known of it
abbrev pub Holds : Type 0
Holds = Option (List ℕ → Option (List ℕ))

-- the name of a locator: that of its file, without what follows the last full stop
abbrev pub name_of : List ℕ → List ℕ
name_of path = unwrap_or (path_file_stem path) path

-- a locator and its name
pub record NamedParts : Type 0 where
  pub name : List ℕ
  pub uris : List AnchorUri
  pub key : KeyParts

abbrev pub named_parts : List ℕ → List AnchorUri → KeyParts → NamedParts
named_parts name uris key = record { name = name; uris = uris; key = key }

-- this locator is in the file
pub record IsLocatorIn (holds : Holds) (path : List ℕ) (l : NamedParts) : Type 0 where
  pub name : l.name ≡ name_of path
  pub reads : IfSome holds (λ files.
      (octets : List ℕ) × (files path ≡ Some octets) × IsLocator octets (map uri_text l.uris) l.key)

-- these are in the files, in their order
abbrev pub AreLocatorsIn : Holds → List (List ℕ) → List NamedParts → Type 0
AreLocatorsIn holds [] [] = Unit {0}
AreLocatorsIn holds [] (l ∷ ls) = ⊥
AreLocatorsIn holds (path ∷ paths) [] = ⊥
AreLocatorsIn holds (path ∷ paths) (l ∷ ls) = IsLocatorIn holds path l × AreLocatorsIn holds paths ls

-- ---- each file once

-- the file is among these
abbrev pub is_among : (paths : List (List ℕ)) → List ℕ → Bool
is_among paths path = list_any (λ one. bytes_eq one path) paths

-- each of these once, where it is last
abbrev pub once : List (List ℕ) → List (List ℕ)
once [] = []
once (path ∷ paths) = if is_among paths path then once paths else path ∷ once paths
