-- What profiles ask of the values of names beside what strict names are: how many characters they have (RFC 5280 A.1),
-- and the string of a router's serial number (RFC 8209 3.1.1).
use Rattle.std.specs.Prelude.{◌≡◌, ◌≤◌, ◌⊎◌, ◌||◌, ltb, leb, ℕ, Bool, false, List, length, All}
use Rattle.std.specs.List.{count_by}
use Rattle.rpki_der.specs.Prelude.{printable_string, utf8_string, SpellsLeaf, IsPrintableText, IsUtf8Text}
use Rattle.rpki.specs.Name.{Attribute}
use Rattle.rpki.specs.Oids.{serial_number}
use Rattle.rpki.specs.StrictName.{IsNameOf}
use Rattle.rpki_cert.specs.declared.profile.name_values.ValueRule.{ValueRule}
use Rattle.rpki_cert.specs.declared.profile.name_values.ValueRule.TheVariants.{Size, SerialNumber}

-- how many characters a value has: 1 to 64, as ub-common-name, ub-serial-number and ub-organization-name say (RFC 5280
-- A.1)
abbrev pub IsNameSize : ℕ → Type 0
IsNameSize n = (1 ≤ n) × (n ≤ 64)

-- an octet that begins a character of UTF-8: not one of 10xxxxxx, which continue it (RFC 3629 3)
abbrev pub begins_character : ℕ → Bool
begins_character x = ltb x 128 || leb 192 x

-- a PrintableString; one of such a size
abbrev pub IsPrintable : List ℕ → Type 0
IsPrintable value = (text : List ℕ) × SpellsLeaf printable_string false IsPrintableText text value

abbrev pub IsSizedPrintable : List ℕ → Type 0
IsSizedPrintable value =
    (text : List ℕ) × SpellsLeaf printable_string false IsPrintableText text value × IsNameSize (length text)

-- a UTF8String of such a size
abbrev pub IsSizedUtf8 : List ℕ → Type 0
IsSizedUtf8 value =
    (text : List ℕ) × SpellsLeaf utf8_string false IsUtf8Text text value × IsNameSize (count_by begins_character text)

-- what a rule asks of an attribute: a string of such a size; that a serial number is a PrintableString
abbrev pub Permits : ValueRule → Attribute → Type 0
Permits Size a = IsSizedPrintable a.value ⊎ IsSizedUtf8 a.value
Permits SerialNumber a = a.identifier ≡ serial_number → IsPrintable a.value

-- these octets are a name, of each of whose attributes the rule is true
abbrev pub PermitsName : ValueRule → List ℕ → Type 0
PermitsName rule = IsNameOf (All (Permits rule))
