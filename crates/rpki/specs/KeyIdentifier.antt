-- Key identifiers: the SHA-1 digest of a key's bits (RFC 6487 4.8.2, RFC 5280 4.2.1.2).
use Rattle.std.specs.Prelude.{◌≡◌, ℕ, false, List, length, codes, map}
use Rattle.std.specs.Char.{to_ascii_uppercase}
use Rattle.rpki_der.specs.declared.error.DecodeError.{DecodeError}
use Rattle.rpki_der.specs.declared.error.DecodeError.TheVariants.{Truncated, BadTag, BadLength, Unexpected, Content}
use Rattle.rpki_der.specs.declared.error.DecodeError.TheVariants.{Trailing, OutOfMemory}
use Rattle.rpki_der.specs.Prelude.{text_of, octet_string, SpellsLeaf, IsLeafFault, AreOctets, Format}
use Rattle.rpki_text.specs.HexText.{hex_text}
use Rattle.rpki.specs.AnyValue.{SpellsAny}

-- twenty octets (RFC 6487 4.8.2)
pub record IsKeyIdentifier (k c : List ℕ) : Type 0 where
  pub same : c ≡ k
  pub size : length c ≡ 20

-- an OCTET STRING of them (RFC 5280 4.2.1.2)
abbrev pub SpellsKeyIdentifier : List ℕ → List ℕ → Type 0
SpellsKeyIdentifier = SpellsLeaf octet_string false IsKeyIdentifier

abbrev pub identifier_error : List ℕ
identifier_error = codes "invalid key identifier"

-- an error of contents has this text
abbrev pub TellsOfContents : DecodeError → Type 0
TellsOfContents (Content e) = text_of e ≡ identifier_error
TellsOfContents Truncated = Unit {0}
TellsOfContents BadTag = Unit {0}
TellsOfContents BadLength = Unit {0}
TellsOfContents Unexpected = Unit {0}
TellsOfContents Trailing = Unit {0}
TellsOfContents OutOfMemory = Unit {0}

-- the first error of an OCTET STRING whose contents are C, with the text for another number of octets
pub record IsIdentifierFault {V : Type 0} (C : V → List ℕ → Type 0) (s : List ℕ) (e : DecodeError) : Type 0 where
  pub fault : IsLeafFault octet_string false C s e
  pub text : TellsOfContents e

-- forty hexadecimal digits, in either case
pub record IsHexOf (k text : List ℕ) : Type 0 where
  pub octets : AreOctets k
  pub size : length k ≡ 20
  pub digits : map to_ascii_uppercase text ≡ hex_text k

abbrev pub identifier : {V : Type 0} → (V → List ℕ → Type 0) → Format V
identifier C = record { spells = SpellsLeaf octet_string false C; fault = IsIdentifierFault C }

abbrev pub key_identifier : Format (List ℕ)
key_identifier = identifier IsKeyIdentifier

-- any key identifier
abbrev pub any_identifier : Format (Unit {0})
any_identifier = identifier (SpellsAny IsKeyIdentifier)
