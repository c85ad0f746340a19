-- What is shown of Ghostbusters records (RFC 6493): the vCard, under the name of `rpki-client`, and its properties.
use Rattle.std.specs.Prelude.{◌≡◌, ◌==◌, ℕ, if◌then◌else◌, List, [], ◌∷◌, ◌++◌, map, length, codes, Result, Ok, Err}
use Rattle.rpki_objects.specs.SignedObject.{ObjectParts}
use Rattle.rpki_records.specs.declared.card.CardPart.{CardPart}
use Rattle.rpki_records.specs.declared.card_property.PropertyKind.{PropertyKind}
use Rattle.rpki_records.specs.declared.card_property.PropertyKind.TheVariants as K
use Rattle.rpki_records.specs.Card.{FoundCard, card_in}
use Rattle.rpki_records.specs.CardValues.{values_in}
use Rattle.rpki_records.specs.Folds.{unfolded}
use Rattle.rpki_fields.specs.Field.{FieldParts, json_parts}
use Rattle.rpki_fields.specs.RecordText.{texts_parts, visible}
use Rattle.rpki_fields.specs.Rendering.{json_text}
use Rattle.rpki_fields.specs.Sheet.{SheetParts, plain_sheet}
use Rattle.rpki_fields.specs.SignedText.{AreSignedFields, labels_of}

-- all of the text
abbrev pub card_parts : List ℕ → FieldParts
card_parts text = json_parts (codes "vCard") (visible text) (json_text text)

-- texts, where there is one
abbrev pub texts_if : List ℕ → List (List ℕ) → List FieldParts
texts_if label xs = if length xs == 0 then [] else texts_parts label xs ∷ []

-- the values of the properties of this kind, each in one piece (RFC 6350 3.2), as they are written (3.4)
abbrev pub kind_fields : List ℕ → PropertyKind → FoundCard → List FieldParts
kind_fields label kind x = texts_if label (map unfolded (values_in kind x))

abbrev pub property_fields : FoundCard → List FieldParts
property_fields x =
    kind_fields (codes "Name") K.Name x ++ kind_fields (codes "Organization") K.Organization x
    ++ kind_fields (codes "Address") K.Address x ++ kind_fields (codes "Telephone") K.Telephone x
    ++ kind_fields (codes "Email") K.Email x

-- with these fields of the object; these alone where the content is no card
abbrev pub card_sheet : List FieldParts → List ℕ → Result FoundCard (CardPart × ℕ) → SheetParts
card_sheet fields text (Err e) = plain_sheet fields
card_sheet fields text (Ok x) = plain_sheet (fields ++ card_parts text ∷ property_fields x)

abbrev pub IsCardSheet : ObjectParts → SheetParts → Type 0
IsCardSheet o s =
    (signed : List FieldParts) × AreSignedFields (labels_of (codes "gbr")) o signed
    × (s ≡ card_sheet signed o.content.content (card_in o.content.content))
