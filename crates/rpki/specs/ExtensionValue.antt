-- Extensions of certificates that are read (RFC 5280 4.1, 4.2): a SEQUENCE of an OBJECT IDENTIFIER, a BOOLEAN whose
-- default is FALSE, and an OCTET STRING.
use Rattle.std.specs.Prelude.{◌≡◌, ◌⊎◌, ◌<◌, ◌^◌, ℕ, Bool, true, false, List, [], ◌∷◌, ◌++◌, length, nat_eq, bytes_eq}
use Rattle.std.specs.Prelude.{if◌then◌else◌}
use Rattle.rpki_der.specs.Prelude.{oid, boolean, octet_string, sequence, SpellsContents, SpellsLeaf, IsOid, IsOidOf}
use Rattle.rpki_der.specs.Prelude.{IsBoolean, front_contents, after_front}
use Rattle.rpki.specs.Extension.{extension_contents, extension_octets}

-- the contents octets of the identifier, whether the extension is critical, and the octets of the OCTET STRING
pub record ExtensionParts : Type 0 where
  pub identifier : List ℕ
  pub critical : Bool
  pub content : List ℕ

abbrev pub extension_parts : List ℕ → Bool → List ℕ → ExtensionParts
extension_parts identifier critical content = record { identifier = identifier; critical = critical; content = content }

-- a BOOLEAN, or nothing for FALSE; FALSE is read where it is spelled, which X.690 11.5 forbids
abbrev pub SpellsCritical : Bool → List ℕ → Type 0
SpellsCritical critical p = SpellsLeaf boolean false IsBoolean critical p ⊎ ((critical ≡ false) × (p ≡ []))

-- the three parts, in sequence
pub record IsExtensionContents (x : ExtensionParts) (c : List ℕ) : Type 0 where
  pub first : List ℕ
  pub second : List ℕ
  pub third : List ℕ
  pub parts : c ≡ first ++ (second ++ third)
  pub identifier : SpellsLeaf oid false IsOidOf x.identifier first
  pub critical : SpellsCritical x.critical second
  pub content : SpellsContents octet_string false x.content third

abbrev pub SpellsExtension : ExtensionParts → List ℕ → Type 0
SpellsExtension = SpellsLeaf sequence true IsExtensionContents

-- what is written of an extension: FALSE is left out
abbrev pub written_extension : ExtensionParts → List ℕ
written_extension x = extension_octets x.identifier x.critical x.content

-- the identifier is one, and a length announces what is written
pub record CanBeWritten (x : ExtensionParts) : Type 0 where
  pub identifier : IsOid x.identifier
  pub short : length (extension_contents x.identifier x.critical x.content) < 2 ^ 32

-- The parts that are in octets, as a function of them: of the contents of an extension, and of a whole extension.
-- Nothing follows an OCTET STRING; one follows a BOOLEAN.
unfoldable pub parts_in : List ℕ → ExtensionParts
parts_in c =
    let rest = after_front c in
    let following = after_front rest in
    if nat_eq (length following) 0
    then extension_parts (front_contents c) false (front_contents rest)
    else extension_parts (front_contents c) (bytes_eq (front_contents rest) (255 ∷ [])) (front_contents following)

unfoldable pub parts_of_extension : List ℕ → ExtensionParts
parts_of_extension octets = parts_in (front_contents octets)

-- a length announces the contents
abbrev pub AreShort : ExtensionParts → Type 0
AreShort x = length (extension_contents x.identifier x.critical x.content) < 2 ^ 32

-- what is written is read as the same extension
abbrev pub IsReadAgain : ExtensionParts → Type 0
IsReadAgain x = CanBeWritten x → SpellsExtension x (written_extension x)
