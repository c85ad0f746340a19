-- What is shown of trust anchor locators (RFC 8630), under the names of `rpki-client`.
use Rattle.std.specs.Prelude.{◌≡◌, ℕ, List, ◌∷◌, ◌++◌, take_while, codes}
use Rattle.sha1.specs.Sha1.{sha1}
use Rattle.rpki.specs.PublicKey.{KeyParts}
use Rattle.rpki_locator.specs.Locator.{IsLocator, is_comment, lines_of}
use Rattle.rpki_fields.specs.CardText.{texts_if}
use Rattle.rpki_fields.specs.CertText.{AreKey}
use Rattle.rpki_fields.specs.Field.{FieldParts, field_parts}
use Rattle.rpki_fields.specs.RecordText.{texts_parts}
use Rattle.rpki_fields.specs.Sheet.{SheetParts, plain_sheet}
use Rattle.rpki_fields.specs.ValueText.{colon_digits}

-- the lines in front that are comments (RFC 8630 2.2), as they are
abbrev pub comments_in : List ℕ → List (List ℕ)
comments_in text = take_while is_comment (lines_of text)

-- the name of the locator; the digest of its key by SHA-1, which is the subject key identifier of the certificate (RFC
-- 6487 4.8.2); where the certificate is; comments, if there are any; and these fields of the key
abbrev pub locator_fields : (name text : List ℕ) → (uris : List (List ℕ)) → KeyParts → List FieldParts
    → List FieldParts
locator_fields name text uris key shown =
    field_parts (codes "Type") (codes "tal") ∷ field_parts (codes "Name") name
    ∷ field_parts (codes "SKI") (colon_digits (sha1 key.bits.octets))
    ∷ texts_parts (codes "Trust Anchor Locations") uris ∷ texts_if (codes "Comments") (comments_in text) ++ shown

-- the sheet of a locator of this name, which is this text, and has these URIs and this key
abbrev pub IsLocatorSheet : (name text : List ℕ) → (uris : List (List ℕ)) → KeyParts → SheetParts → Type 0
IsLocatorSheet name text uris key s =
    (shown : List FieldParts) × AreKey key shown × (s ≡ plain_sheet (locator_fields name text uris key shown))

-- the text is a locator, and this is its sheet
abbrev pub IsSheetOfLocator : (name text : List ℕ) → SheetParts → Type 0
IsSheetOfLocator name text s =
    (uris : List (List ℕ)) × (key : KeyParts) × IsLocator text uris key × IsLocatorSheet name text uris key s
