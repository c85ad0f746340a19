-- What is shown of signed checklists (RFC 9323) and of trust anchor keys (RFC 9691), under the names of `rpki-client`.
use Rattle.std.specs.Prelude.{◌≡◌, ◌⊎◌, ◌||◌, ◌==◌, ℕ, true, if◌then◌else◌, nat_lt, List, [], ◌∷◌, ◌++◌}
use Rattle.std.specs.Prelude.{map, drop, codes, Option, Some, None, Result, Ok, Err}
use Rattle.std.specs.List.{flat_map}
use Rattle.base64.specs.Engines.{standard}
use Rattle.base64.specs.GeneralPurpose.{encode_of}
use Rattle.rpki_objects.specs.SignedObject.{ObjectParts}
use Rattle.rpki_records.specs.declared.checklist.ChecklistPart.{ChecklistPart}
use Rattle.rpki_records.specs.declared.resources.ResourceBlock.{ResourceBlock}
use Rattle.rpki_records.specs.declared.tak.TakPart.{TakPart}
use Rattle.rpki_records.specs.AnchorKeys.{FoundKey, FoundTak, given_comment_at, given_uri_at, tak}
use Rattle.rpki_records.specs.Checklist.{FoundChecklist, checklist}
use Rattle.rpki_records.specs.ChecklistEntries.{Entry, entries}
use Rattle.rpki_records.specs.ChecklistResources.{AreNoResources, AreResources}
use Rattle.rpki_records.specs.Words.{firsts, where_there}
use Rattle.rpki_fields.specs.Field.{FieldParts, field_parts, json_parts}
use Rattle.rpki_fields.specs.Rendering.{json_text}
use Rattle.rpki_fields.specs.ResourceItems.{AreChoiceItems, AreFamilyItems}
use Rattle.rpki_fields.specs.Sheet.{SheetParts, list_sheet, listing_parts, plain_sheet, sheet_with}
use Rattle.rpki_fields.specs.SignedText.{AreSignedFields, labels_of}
use Rattle.rpki_fields.specs.ValueText.{hex_pair}

-- ---- checklists

-- a file, and the digest of its octets by SHA-256, in base 64 (RFC 4648 4); a file without a name has an empty one in
-- JSON
abbrev pub entry_name : Option (List ℕ) → FieldParts
entry_name (Some name) = field_parts (codes "Filename") name
entry_name None = json_parts (codes "Filename") (codes "no filename") (codes "\"\"")

abbrev pub entry_item : Entry → List FieldParts
entry_item x = entry_name x.0 ∷ field_parts (codes "Hash Digest") (encode_of standard x.1) ∷ []

-- the resources, block by block: AS numbers, and then addresses; nothing where they are malformed
abbrev pub AreBlockResources : ResourceBlock → List (List FieldParts) → Type 0
AreBlockResources b items =
    (numbers addresses : List (List FieldParts)) × AreChoiceItems (codes "ASID Inherit") b.numbers numbers
    × AreFamilyItems (Some b.addresses) addresses × (items ≡ numbers ++ addresses)

abbrev pub AreChecklistResources : FoundChecklist → List (List FieldParts) → Type 0
AreChecklistResources x items =
    ((b : ResourceBlock) × AreResources x b × AreBlockResources b items) ⊎ (AreNoResources x × (items ≡ []))

-- with these fields of the object, the resources, and each file, in the order of the list; the fields alone where the
-- content is no checklist
abbrev pub ShowsChecklist : List FieldParts → Result FoundChecklist (ChecklistPart × ℕ) → SheetParts → Type 0
ShowsChecklist fields (Err e) s = s ≡ plain_sheet fields
ShowsChecklist fields (Ok x) s =
    (resources : List (List FieldParts)) × AreChecklistResources x resources
    × (s ≡ sheet_with (listing_parts (codes "FileNamesAndHashes") (map entry_item (entries x.count x.files)) true)
    (list_sheet fields (codes "Signed With Resources") resources))

abbrev pub IsChecklistSheet : ObjectParts → SheetParts → Type 0
IsChecklistSheet o s =
    (signed : List FieldParts) × AreSignedFields (labels_of (codes "rsc")) o signed
    × ShowsChecklist signed (checklist o.content.content) s

-- ---- trust anchor keys

-- an octet of a text that anyone may have written: what is no printable character of ASCII, and a backslash, is a
-- backslash and two hexadecimal digits
abbrev pub visible_octet : ℕ → List ℕ
visible_octet x = if nat_lt x 32 || (nat_lt 126 x || x == 92) then 92 ∷ hex_pair x else x ∷ []

abbrev pub visible : List ℕ → List ℕ
visible text = flat_map visible_octet text

-- texts, with a comma between two of them; and as an array of JSON (RFC 8259 5)
abbrev pub next_text : List ℕ → List ℕ
next_text text = codes ", " ++ visible text

abbrev pub texts : List (List ℕ) → List ℕ
texts xs = drop 2 (flat_map next_text xs)

abbrev pub next_json : List ℕ → List ℕ
next_json text = codes "," ++ json_text text

abbrev pub json_texts : List (List ℕ) → List ℕ
json_texts xs = codes "[" ++ drop 1 (flat_map next_json xs) ++ codes "]"

abbrev pub texts_parts : List ℕ → List (List ℕ) → FieldParts
texts_parts label xs = json_parts label (texts xs) (json_texts xs)

-- a key: which one it is, its comments, its URIs, and the key in base 64, as a locator has it (RFC 8630 2.2)
abbrev pub key_item : List ℕ → FoundKey → List FieldParts
key_item name k =
    field_parts (codes "Name") name
    ∷ texts_parts (codes "Comments") (firsts given_comment_at k.comment_count k.comments)
    ∷ texts_parts (codes "URIs") (firsts given_uri_at k.uri_count k.uris)
    ∷ field_parts (codes "SPKI") (encode_of standard k.key) ∷ []

abbrev pub key_items : List ℕ → Option FoundKey → List (List FieldParts)
key_items name k = map (key_item name) (where_there k)

abbrev pub all_key_items : FoundTak → List (List FieldParts)
all_key_items x =
    key_item (codes "current") x.current
    ∷ key_items (codes "predecessor") x.predecessor ++ key_items (codes "successor") x.successor

abbrev pub anchor_keys_sheet : List FieldParts → Result FoundTak (TakPart × ℕ) → SheetParts
anchor_keys_sheet fields (Err e) = plain_sheet fields
anchor_keys_sheet fields (Ok x) = list_sheet fields (codes "TAKeys") (all_key_items x)

abbrev pub IsAnchorKeysSheet : ObjectParts → SheetParts → Type 0
IsAnchorKeysSheet o s =
    (signed : List FieldParts) × AreSignedFields (labels_of (codes "tak")) o signed
    × (s ≡ anchor_keys_sheet signed (tak o.content.content))
