-- Names as formats: their octets, and which error those have that are rejected (RFC 5280 4.1.2.4).
use Rattle.std.specs.Prelude.{◌≡◌, ◌⊎◌, ℕ, List, [], codes}
use Rattle.rpki_der.specs.declared.error.DecodeError.{DecodeError}
use Rattle.rpki_der.specs.Prelude.{sequence, set, SpellsAnyValue, IsNestedFault, RepeatedFault, Format}
use Rattle.rpki_der.specs.Prelude.{around, then, only, said_by, kept_where, any_oid}
use Rattle.rpki.specs.Name.{IsAttribute, SpellsSome, SpellsAttribute, SpellsRelative, SpellsNameOctets}
use Rattle.rpki.specs.NameValue.{HasNameValue}
use Rattle.rpki.specs.AnyValue.{SpellsAny}
use Rattle.rpki.specs.UnknownAlgorithm.{IsContentWith}

-- this text where nothing remains; elsewhere what K says
abbrev pub IsFaultOrEmpty : List ℕ → (List ℕ → DecodeError → Type 0) → List ℕ → DecodeError → Type 0
IsFaultOrEmpty text K s e = ((s ≡ []) × IsContentWith text e) ⊎ K s e

-- parts that aren't empty: where nothing remains the error has this text
abbrev pub not_empty : {V : Type 0} → List ℕ → Format V → Format V
not_empty text P = record { spells = P.spells; fault = IsFaultOrEmpty text P.fault }

-- values of F that are passed over, one at least, and together are of G
abbrev pub passed : (Unit {0} → List ℕ → Type 0) → Format (Unit {0}) → Format (Unit {0})
passed G F = record { spells = G; fault = RepeatedFault F.spells F.fault }

-- ---- an attribute: an OBJECT IDENTIFIER; then a value, with any contents; then nothing

abbrev pub any_value : Format (Unit {0})
any_value = record { spells = SpellsAnyValue; fault = IsNestedFault }

abbrev pub attribute_parts : Format (Unit {0})
attribute_parts = said_by (SpellsAny IsAttribute) (then any_oid (not_empty (codes "invalid name") (only any_value)))

abbrev pub attribute : Format (Unit {0})
attribute = around sequence attribute_parts

-- ---- a relative distinguished name: attributes, one at least

abbrev pub attributes : Format (Unit {0})
attributes =
    not_empty (codes "empty relative distinguished name") (passed (SpellsAny (SpellsSome SpellsAttribute)) attribute)

abbrev pub relative : Format (Unit {0})
relative = around set attributes

-- ---- a name: relative distinguished names, one at least

abbrev pub relatives : Format (Unit {0})
relatives = not_empty (codes "empty distinguished name") (passed (SpellsAny (SpellsSome SpellsRelative)) relative)

abbrev pub walked_name : Format (Unit {0})
walked_name = around sequence relatives

-- a name, which stands for its octets; one that is kept: allocation may fail where an attribute has a value
abbrev pub borrowed_name : Format (List ℕ)
borrowed_name = said_by SpellsNameOctets walked_name

abbrev pub name : Format (List ℕ)
name = kept_where HasNameValue borrowed_name

-- ---- the errors

abbrev pub IsWalkedNameFault : List ℕ → DecodeError → Type 0
IsWalkedNameFault = walked_name.fault

abbrev pub IsNameFault : List ℕ → DecodeError → Type 0
IsNameFault = name.fault
