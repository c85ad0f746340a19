-- A trust anchor locator, as it is written, and what is read of it (RFC 8630 2.2).
use Rattle.std.specs.Prelude.{◌≡◌, ◌<◌, ◌+◌, ◌/◌, ℕ, List, [], ◌∷◌, ◌++◌, length, flat_map, codes, Ok}
use Rattle.std.specs.List.{prefix_len}
use Rattle.std.specs.Simd.{first_chunks}
use Rattle.base64.specs.Engines.{standard}
use Rattle.base64.specs.GeneralPurpose.{encode_of, decode_of}
use Rattle.rpki_der.specs.declared.error.DecodeError.TheVariants.{OutOfMemory as NoMemory}
use Rattle.rpki.specs.PublicKey.{KeyParts, SpellsKey, key_octets, IsShortKey}
use Rattle.rpki_locator.specs.declared.error.LocatorError.{LocatorError}
use Rattle.rpki_locator.specs.declared.error.LocatorError.TheVariants as Read
use Rattle.rpki_locator.specs.Locator.{is_anchor_uri, IsLocator, IsLocatorError}
use Rattle.rpki_issue.specs.declared.locator_written.LocatorWriteError.{LocatorWriteError}
use Rattle.rpki_issue.specs.declared.locator_written.LocatorWriteError.TheVariants.{NoUri, OtherUri, TooLong}
use Rattle.rpki_issue.specs.declared.locator_written.LocatorWriteError.TheVariants.{OutOfMemory}

-- ---- the text

-- a line, and the line feed that ends it
abbrev pub line_octets : List ℕ → List ℕ
line_octets line = line ++ 10 ∷ []

abbrev pub lines_octets : List (List ℕ) → List ℕ
lines_octets lines = flat_map line_octets lines

-- digits in lines of 64, of which the last has the rest
unfoldable pub folded : List ℕ → List (List ℕ)
folded digits = first_chunks 64 ((length digits + 63) / 64) digits

-- a key (SubjectPublicKeyInfo, RFC 5280 4.1) in base 64 with padding (RFC 4648 4)
abbrev pub info_digits : KeyParts → List ℕ
info_digits key = encode_of standard (key_octets key)

-- a line for each URI; an empty line; and the key
abbrev pub locator_lines : List (List ℕ) → KeyParts → List (List ℕ)
locator_lines uris key = uris ++ [] ∷ folded (info_digits key)

abbrev pub locator_octets : List (List ℕ) → KeyParts → List ℕ
locator_octets uris key = lines_octets (locator_lines uris key)

-- ---- what is read of it

-- allocation failed
abbrev pub IsMemory : LocatorError → Type 0
IsMemory (Read.OtherUri line) = ⊥
IsMemory (Read.NoUri line) = ⊥
IsMemory (Read.NoKey line) = ⊥
IsMemory (Read.OtherText line) = ⊥
IsMemory (Read.OtherKey line e) = e ≡ NoMemory
IsMemory Read.OutOfMemory = Unit {0}

-- the text is read as these URIs and this key, and as no others; it is refused only if allocation fails
pub record IsLocatorReadBack (uris : List (List ℕ)) (key : KeyParts) (text : List ℕ) : Type 0 where
  pub read : IsLocator text uris key
  pub only : (us : List (List ℕ)) (k : KeyParts) → IsLocator text us k → (us ≡ uris) × (k ≡ key)
  pub accepted : (e : LocatorError) → IsLocatorError text e → IsMemory e

-- a key is read again, and so is its text
pub record IsKeyRead (key : KeyParts) : Type 0 where
  pub spelled : SpellsKey key (key_octets key)
  pub decoded : decode_of standard (info_digits key) ≡ Ok (key_octets key)

-- ---- what isn't written

-- what a person reads
abbrev pub locator_write_text : LocatorWriteError → List ℕ
locator_write_text NoUri = codes "locator without a URI"
locator_write_text (OtherUri at) = codes "URI that no locator has"
locator_write_text TooLong = codes "more octets than a length announces"
locator_write_text OutOfMemory = codes "out of memory"

-- no URI is there, or one is the first that no locator may have
abbrev pub AreNoUris : List (List ℕ) → LocatorWriteError → Type 0
AreNoUris uris NoUri = uris ≡ []
AreNoUris uris (OtherUri at) = (at ≡ prefix_len is_anchor_uri uris) × (at < length uris)
AreNoUris uris TooLong = ⊥
AreNoUris uris OutOfMemory = Unit {0}

-- no length announces the key
abbrev pub IsLongKey : KeyParts → LocatorWriteError → Type 0
IsLongKey key NoUri = ⊥
IsLongKey key (OtherUri at) = ⊥
IsLongKey key TooLong = IsShortKey key → ⊥
IsLongKey key OutOfMemory = Unit {0}

-- one or the other
abbrev pub IsNoLocator : List (List ℕ) → KeyParts → LocatorWriteError → Type 0
IsNoLocator uris key NoUri = AreNoUris uris NoUri
IsNoLocator uris key (OtherUri at) = AreNoUris uris (OtherUri at)
IsNoLocator uris key TooLong = IsLongKey key TooLong
IsNoLocator uris key OutOfMemory = Unit {0}
