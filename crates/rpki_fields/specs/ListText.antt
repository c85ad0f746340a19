-- What is shown of a revocation list (RFC 5280 5.1, RFC 6487 5).
use Rattle.std.specs.Prelude.{◌≡◌, ℕ, List, [], ◌∷◌, codes}
use Rattle.rpki_crl.specs.Crl.{Entry, ListParts, listed}
use Rattle.rpki_fields.specs.EachIs.{EachIs}
use Rattle.rpki_fields.specs.Field.{FieldParts, field_parts, time_parts}
use Rattle.rpki_fields.specs.NameText.{IsNameText}
use Rattle.rpki_fields.specs.Sheet.{SheetParts, list_sheet}
use Rattle.rpki_fields.specs.ValueText.{colon_digits, IsNumberText}

-- the type; the issuer, the number, the times of this update and of the next, and the identifier of the issuer's key
abbrev pub AreListFields : ListParts → List FieldParts → Type 0
AreListFields t fields =
    (issuer number : List ℕ) × IsNameText t.issuer issuer × IsNumberText t.extensions.number number
    × (fields ≡ field_parts (codes "Type") (codes "crl") ∷ field_parts (codes "CRL Issuer") issuer
    ∷ field_parts (codes "CRL Serial") number ∷ time_parts (codes "Valid Since") t.this_update
    ∷ time_parts (codes "Valid Until") t.next_update
    ∷ field_parts (codes "AKI") (colon_digits t.extensions.authority) ∷ [])

-- a certificate that is revoked: its serial number, and when it was
abbrev pub IsEntryItem : Entry → List FieldParts → Type 0
IsEntryItem e item =
    (serial : List ℕ) × IsNumberText e.0 serial
    × (item ≡ field_parts (codes "Serial") serial ∷ time_parts (codes "Revocation Date") e.1 ∷ [])

-- the fields, and each certificate that is revoked, in the order of the list
abbrev pub IsListSheet : ListParts → SheetParts → Type 0
IsListSheet t s =
    (fields : List FieldParts) × (items : List (List FieldParts)) × AreListFields t fields
    × EachIs IsEntryItem (listed t.revoked) items × (s ≡ list_sheet fields (codes "Revoked Certs") items)
