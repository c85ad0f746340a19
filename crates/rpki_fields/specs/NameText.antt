-- Names as texts: the string form of RFC 4514, but in the order in which the name has its parts, and with a space after
-- a comma and around a plus sign.
use Rattle.std.specs.Prelude.{◌≡◌, ℕ, nat_eq, nat_lt, ◌||◌, ◌&&◌, ◌-◌, true, false, length, if◌then◌else◌, List, []}
use Rattle.std.specs.Prelude.{◌∷◌, ◌++◌, take, drop, codes, bytes_eq, slice_index, Bool}
use Rattle.std.specs.List.{flat_map}
use Rattle.rpki_der.specs.Front.{front_contents}
use Rattle.rpki.specs.Name.{Attribute, SpellsName}
use Rattle.rpki_fields.specs.IdentifierText.{identifier_text}
use Rattle.rpki_fields.specs.ValueText.{hex_pair, hex_digits}

-- the name of an attribute's identifier, by the contents octets of that: 2.5.4.3, 2.5.4.5, 2.5.4.6, 2.5.4.10 and
-- 2.5.4.11 (RFC 4514 3, RFC 5280 A.1); of another its arcs
abbrev pub attribute_name : List ℕ → List ℕ
attribute_name identifier =
    if bytes_eq identifier (85 ∷ 4 ∷ 3 ∷ []) then codes "CN"
    else if bytes_eq identifier (85 ∷ 4 ∷ 5 ∷ []) then codes "serialNumber"
    else if bytes_eq identifier (85 ∷ 4 ∷ 6 ∷ []) then codes "C"
    else if bytes_eq identifier (85 ∷ 4 ∷ 10 ∷ []) then codes "O"
    else if bytes_eq identifier (85 ∷ 4 ∷ 11 ∷ []) then codes "OU"
    else identifier_text identifier

-- an octet that has a meaning in the string form: quotation mark, number sign, plus sign, comma, semicolon, less-than,
-- equals, greater-than, reverse solidus
abbrev pub is_special : ℕ → Bool
is_special octet =
    nat_eq octet 34 || nat_eq octet 35 || nat_eq octet 43 || nat_eq octet 44 || nat_eq octet 59 || nat_eq octet 60
    || nat_eq octet 61 || nat_eq octet 62 || nat_eq octet 92

-- an octet of a string: those after a reverse solidus, and one that isn't a printable character of ASCII by its digits
-- after a reverse solidus; a space is after one, too, where it is the first octet or the last (RFC 4514 2.4)
abbrev pub octet_text : Bool → ℕ → List ℕ
octet_text edge octet =
    if is_special octet || (edge && nat_eq octet 32) then 92 ∷ octet ∷ []
    else if nat_lt octet 32 || nat_lt 126 octet then 92 ∷ hex_pair octet
    else octet ∷ []

-- the octets after the first: those between, and the last
abbrev pub rest_text : List ℕ → List ℕ
rest_text rest =
    flat_map (octet_text false) (take (length rest - 1) rest)
    ++ flat_map (octet_text true) (drop (length rest - 1) rest)

-- a string: its first octet, and the others
abbrev pub string_text : List ℕ → List ℕ
string_text string = flat_map (octet_text true) (take 1 string) ++ rest_text (drop 1 string)

-- a value that begins with the identifier octet of a PrintableString, a UTF8String or an IA5String is a string
abbrev pub is_string : ℕ → Bool
is_string first = nat_eq first 19 || nat_eq first 12 || nat_eq first 22

-- a string by its characters, any other value by the digits of its octets after a number sign
abbrev pub value_text : List ℕ → List ℕ
value_text value =
    if is_string (slice_index value 0) then string_text (front_contents value)
    else 35 ∷ hex_digits value

abbrev pub attribute_text : Attribute → List ℕ
attribute_text a = attribute_name a.identifier ++ 61 ∷ value_text a.value

-- an attribute after a plus sign
abbrev pub plus_attribute : Attribute → List ℕ
plus_attribute a = codes " + " ++ attribute_text a

-- the attributes of a relative distinguished name, with a plus sign between two of them
abbrev pub relative_text : List Attribute → List ℕ
relative_text attributes = drop 3 (flat_map plus_attribute attributes)

-- a relative distinguished name after a comma
abbrev pub comma_relative : List Attribute → List ℕ
comma_relative attributes = codes ", " ++ relative_text attributes

-- the relative distinguished names, with a comma between two of them
abbrev pub parts_text : List (List Attribute) → List ℕ
parts_text parts = drop 2 (flat_map comma_relative parts)

-- what is in front of an attribute: a comma where it begins a relative distinguished name, else a plus sign
abbrev pub mark_text : Bool → List ℕ
mark_text true = codes ", "
mark_text false = codes " + "

abbrev pub marked_text : Bool → Attribute → List ℕ
marked_text begins a = mark_text begins ++ attribute_text a

-- the text of the name that the octets are
abbrev pub IsNameText : List ℕ → List ℕ → Type 0
IsNameText octets text = (parts : List (List Attribute)) × SpellsName parts octets × (text ≡ parts_text parts)
