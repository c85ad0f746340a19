-- The two renderings of a sheet: lines, and an object of JSON.
use Rattle.std.specs.Prelude.{ℕ, List, [], ◌∷◌, ◌++◌, ◌||◌, if◌then◌else◌, nat_eq, map, drop, codes, Option, Some, None}
use Rattle.std.specs.Char.{to_ascii_lowercase}
use Rattle.std.specs.List.{flat_map}
use Rattle.std.specs.Str.Lossy.{utf8_lossy}
use Rattle.serde_json.specs.Data.{string}
use Rattle.serde_json.specs.Written.{compact_text}
use Rattle.rpki_fields.specs.declared.rendering.Form.{Form}
use Rattle.rpki_fields.specs.declared.rendering.Form.TheVariants.{Text, Json}
use Rattle.rpki_fields.specs.Field.{FieldParts}
use Rattle.rpki_fields.specs.Sheet.{ListingParts, SheetParts}

-- ---- lines

-- a field on a line
abbrev pub field_line : FieldParts → List ℕ
field_line f = f.label ++ codes ": " ++ f.value ++ 10 ∷ []

abbrev pub lines : List FieldParts → List ℕ
lines fields = flat_map field_line fields

-- a field of an item, after a comma
abbrev pub item_field : FieldParts → List ℕ
item_field f = codes ", " ++ f.label ++ 32 ∷ f.value

-- an item on a line: the label of the list, and its fields with a comma between two of them
abbrev pub item_line : List ℕ → List FieldParts → List ℕ
item_line label fields = label ++ codes ": " ++ drop 2 (flat_map item_field fields) ++ 10 ∷ []

abbrev pub item_lines : List ℕ → List (List FieldParts) → List ℕ
item_lines label items = flat_map (item_line label) items

-- a list: nothing where JSON alone has it
abbrev pub listing_lines : ListingParts → List ℕ
listing_lines l = if l.in_lines then item_lines l.label l.items else []

abbrev pub sheet_lines : SheetParts → List ℕ
sheet_lines s = lines s.fields ++ flat_map listing_lines s.listings

-- ---- an object of JSON (RFC 8259 4)

-- A text as a string of JSON, in quotation marks (RFC 8259 7), as `serde_json` writes it. What is not UTF-8 is
-- replaced, so that the whole is JSON whatever the octets.
abbrev pub json_text : List ℕ → List ℕ
json_text text = compact_text (string (utf8_lossy text))

-- an octet of a name: letters in lower case, and a low line for a space or a hyphen
abbrev pub name_octet : ℕ → ℕ
name_octet octet = if nat_eq octet 32 || nat_eq octet 45 then 95 else to_ascii_lowercase octet

-- the name of a member: the label, as a word
abbrev pub member_name : List ℕ → List ℕ
member_name label = map name_octet label

-- a value that JSON has otherwise, as a number (RFC 8259 6), is as it is; any other is a string of its text
abbrev pub json_or : Option (List ℕ) → (text : List ℕ) → List ℕ
json_or None text = json_text text
json_or (Some json) text = json

abbrev pub json_value : FieldParts → List ℕ
json_value f = json_or f.json f.value

-- a field as a member
abbrev pub member : FieldParts → List ℕ
member f = json_text (member_name f.label) ++ codes ":" ++ json_value f

-- a member after another one
abbrev pub next_member : FieldParts → List ℕ
next_member f = codes "," ++ member f

-- members in order, with a comma between two of them
abbrev pub members : List FieldParts → List ℕ
members [] = []
members (f ∷ fields) = member f ++ flat_map next_member fields

-- an item as an object, after a comma
abbrev pub next_item : List FieldParts → List ℕ
next_item fields = codes ",{" ++ members fields ++ codes "}"

-- the items as an array (RFC 8259 5), which is a member after another one
abbrev pub array_member : List ℕ → List (List FieldParts) → List ℕ
array_member label items =
    codes "," ++ json_text (member_name label) ++ codes ":[" ++ drop 1 (flat_map next_item items) ++ codes "]"

abbrev pub listing_member : ListingParts → List ℕ
listing_member l = array_member l.label l.items

-- the fields, and the lists after them, as an object on a line; there is a field before a list
abbrev pub object : SheetParts → List ℕ
object s = codes "{" ++ members s.fields ++ flat_map listing_member s.listings ++ codes "}\n"

-- ---- one form or the other

abbrev pub rendering : Form → SheetParts → List ℕ
rendering Text = sheet_lines
rendering Json = object
