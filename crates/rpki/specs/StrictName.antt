-- Names as certificates of the RPKI and of its routers have them (RFC 6487 4.4, RFC 8209 3.1.1); an organization name
-- is permitted beside what these documents name.
use Rattle.std.specs.Prelude.{◌≡◌, ◌<◌, ◌≤◌, ◌⊎◌, ℕ, Bool, false, List, length, nat_eq}
use Rattle.std.specs.List.{All, count_by, flat_map}
use Rattle.std.specs.Cmp.Lexicographic.{pointwise}
use Rattle.rpki_der.specs.Prelude.{printable_string, utf8_string, SpellsLeaf, IsPrintableText, IsUtf8Text}
use Rattle.rpki.specs.Oids.{common_name}
use Rattle.rpki.specs.Name.{Attribute, SpellsName}
use Rattle.rpki.specs.NameTable.{Row, row_at, HasRow, name_table}

-- the attribute has this identifier
abbrev pub has_identifier : List ℕ → Attribute → Bool
has_identifier identifier a = pointwise nat_eq a.identifier identifier

-- how many of the attributes have it
abbrev pub count_of : List ℕ → List Attribute → ℕ
count_of identifier xs = count_by (has_identifier identifier) xs

-- a PrintableString
abbrev pub IsPrintable : List ℕ → Type 0
IsPrintable value = (text : List ℕ) × SpellsLeaf printable_string false IsPrintableText text value

-- a UTF8String
abbrev pub IsUtf8String : List ℕ → Type 0
IsUtf8String value = (text : List ℕ) × SpellsLeaf utf8_string false IsUtf8Text text value

-- the one or the other
abbrev pub IsPrintableOrUtf8 : List ℕ → Type 0
IsPrintableOrUtf8 value = IsPrintable value ⊎ IsUtf8String value

-- the attribute has a row in the table, and its value is such a string
pub record IsPermitted (table : List Row) (IsString : List ℕ → Type 0) (a : Attribute) : Type 0 where
  pub number : ℕ
  pub has : HasRow table number a.identifier
  pub string : IsString a.value

-- one common name, none of the table's attributes twice, no attribute without a row, and each value such a string
pub record IsStrict (table : List Row) (IsString : List ℕ → Type 0) (xs : List Attribute) : Type 0 where
  pub common : count_of common_name xs ≡ 1
  pub once : (n : ℕ) → n < length table → count_of (row_at table n).identifier xs ≤ 1
  pub permitted : All (IsPermitted table IsString) xs

-- the attributes of a name, in order
abbrev pub attributes : List (List Attribute) → List Attribute
attributes parts = flat_map (λ x. x) parts

-- these octets are a name whose attributes are so
abbrev pub IsNameOf : (List Attribute → Type 0) → List ℕ → Type 0
IsNameOf P octets = (parts : List (List Attribute)) × SpellsName parts octets × P (attributes parts)

-- a name of the RPKI: each value is a PrintableString
abbrev pub IsRpkiName : List ℕ → Type 0
IsRpkiName = IsNameOf (IsStrict name_table IsPrintable)

-- a name of a router: each is a PrintableString or a UTF8String
abbrev pub IsRouterName : List ℕ → Type 0
IsRouterName = IsNameOf (IsStrict name_table IsPrintableOrUtf8)

-- a name that passes both
abbrev pub IsEitherName : List ℕ → Type 0
IsEitherName octets = IsRpkiName octets × IsRouterName octets
