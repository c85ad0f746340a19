-- Extensions as formats: their octets, and which error those have that are rejected (RFC 5280 4.1).
use Rattle.std.specs.Prelude.{◌⊎◌, ℕ, List}
use Rattle.rpki_der.specs.declared.error.DecodeError.TheVariants.{Trailing}
use Rattle.rpki_der.specs.Prelude.{boolean, octet_string, sequence, Format, octets_under, around, then, optional_then}
use Rattle.rpki_der.specs.Prelude.{only, said_by, kept, kept_where, any_oid, boolean_value, Finds}
use Rattle.rpki.specs.ExtensionValue.{ExtensionParts, IsExtensionContents}

-- an OCTET STRING; then nothing
abbrev pub content : Format (List ℕ)
content = only (octets_under octet_string)

-- an OBJECT IDENTIFIER; then a BOOLEAN that may be left out; then the others
abbrev pub extension_fields : Format ExtensionParts
extension_fields = said_by IsExtensionContents (then any_oid (optional_then boolean boolean_value content))

abbrev pub extension : Format ExtensionParts
extension = around sequence extension_fields

-- an extension that is kept: allocation may fail where it is there
abbrev pub kept_extension : Format ExtensionParts
kept_extension = kept extension

-- the parts of an extension are there, with nothing after them in its SEQUENCE, or something
abbrev pub HasExtensionParts : List ℕ → Type 0
HasExtensionParts s = Finds extension.spells s ⊎ extension.fault s Trailing

-- an extension that is captured: allocation may fail where its parts are there
abbrev pub captured_extension : Format ExtensionParts
captured_extension = kept_where HasExtensionParts extension
