-- Sheets: what is shown of an object. Fields, and after them lists of items, each of fields of its own.
use Rattle.std.specs.Prelude.{ℕ, Bool, true, List, [], ◌∷◌, ◌++◌}
use Rattle.rpki_fields.specs.Field.{FieldParts}

-- items under a label, and whether lines have them, or JSON alone
pub record ListingParts : Type 0 where
  pub label : List ℕ
  pub items : List (List FieldParts)
  pub in_lines : Bool

abbrev pub listing_parts : List ℕ → List (List FieldParts) → Bool → ListingParts
listing_parts label items in_lines = record { label = label; items = items; in_lines = in_lines }

pub record SheetParts : Type 0 where
  pub fields : List FieldParts
  pub listings : List ListingParts

abbrev pub sheet_parts : List FieldParts → List ListingParts → SheetParts
sheet_parts fields listings = record { fields = fields; listings = listings }

-- fields alone
abbrev pub plain_sheet : List FieldParts → SheetParts
plain_sheet fields = sheet_parts fields []

-- fields, and items under a label
abbrev pub list_sheet : List FieldParts → List ℕ → List (List FieldParts) → SheetParts
list_sheet fields label items = sheet_parts fields (listing_parts label items true ∷ [])

-- a field in front of a sheet
abbrev pub sheet_behind : FieldParts → SheetParts → SheetParts
sheet_behind field s = sheet_parts (field ∷ s.fields) s.listings

-- items at the end of a sheet
abbrev pub sheet_with : ListingParts → SheetParts → SheetParts
sheet_with listing s = sheet_parts s.fields (s.listings ++ listing ∷ [])
