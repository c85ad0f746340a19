-- The authority key identifier: keyIdentifier alone, under the tag 0 (RFC 5280 4.2.1.1, RFC 6487 4.8.3).
use Rattle.std.specs.Prelude.{ℕ, List, [], ◌∷◌}
use Rattle.rpki_der.specs.declared.error.DecodeError.{DecodeError}
use Rattle.rpki_der.specs.declared.tag.Class.TheVariants.{Context}
use Rattle.rpki_der.specs.Prelude.{TagName, tag_of, sequence, Format, leaf, around, only, IsWholeFault}
use Rattle.rpki.specs.KeyIdentifier.{IsKeyIdentifier}

-- 2.5.29.35 (RFC 5280 4.2.1.1)
abbrev pub authority_key_identifier : List ℕ
authority_key_identifier = 85 ∷ 29 ∷ 35 ∷ []

abbrev pub identifier_tag : TagName
identifier_tag = tag_of Context 0

abbrev pub tagged_identifier : Format (List ℕ)
tagged_identifier = leaf identifier_tag IsKeyIdentifier

abbrev pub SpellsTagged : List ℕ → List ℕ → Type 0
SpellsTagged = tagged_identifier.spells

abbrev pub authority_content : Format (List ℕ)
authority_content = around sequence (only tagged_identifier)

abbrev pub SpellsAuthority : List ℕ → List ℕ → Type 0
SpellsAuthority = authority_content.spells

-- the error of octets of which all are to be of a format
abbrev pub WholeFault : {V : Type 0} → Format V → List ℕ → DecodeError → Type 0
WholeFault F = IsWholeFault F.spells F.fault
