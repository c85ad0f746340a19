-- What a status says of the octets of an extension.
use Rattle.std.specs.Prelude.{◌≡◌, ◌⊎◌, ℕ, List}
use Rattle.rpki_der.specs.declared.error.DecodeError.{DecodeError}
use Rattle.rpki.specs.ExtensionValue.{ExtensionParts, SpellsExtension}
use Rattle.rpki.specs.ExtensionFault.{extension}
use Rattle.rpki_c.specs.declared.extensions.ExtensionParts.{ExtensionParts as Parts}
use Rattle.rpki_c.specs.Whole.{NeverMemory, IsRefused}

-- the error of a reader of one extension and nothing else, which allocates nothing
abbrev pub IsWholeExtensionFault : List ℕ → DecodeError → Type 0
IsWholeExtensionFault = NeverMemory SpellsExtension extension.fault

-- the octets are an extension: the contents of its identifier, and the octets of its OCTET STRING
pub record HasExtension (s : List ℕ) (p : Parts) : Type 0 where
  pub parts : ExtensionParts
  pub spelled : SpellsExtension parts s
  pub id : p.id.octets.now ≡ parts.identifier
  pub octets : p.octets.octets.now ≡ parts.content
  pub critical : p.critical ≡ parts.critical

-- Status 0: the octets are an extension of these parts. Else the number of the error, and nothing is written.
abbrev pub IsExtensionRead : List ℕ → ℕ → Parts → Parts → Type 0
IsExtensionRead s status old new =
    ((status ≡ 0) × HasExtension s new) ⊎ (IsRefused SpellsExtension IsWholeExtensionFault s status × (new ≡ old))
