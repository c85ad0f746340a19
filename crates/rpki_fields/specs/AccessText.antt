-- What is shown of access descriptions (RFC 5280 4.2.2): each of them, in the order in which an extension has them.
use Rattle.std.specs.Prelude.{◌≡◌, ◌⊎◌, ℕ, ◌+◌, nat_eq, nat_lt, Bool, true, false, not, ◌&&◌, ◌||◌, if◌then◌else◌}
use Rattle.std.specs.Prelude.{List, [], ◌∷◌, codes, map, length, bytes_eq, Option, Some, None}
use Rattle.std.specs.List.{flat_map, list_any}
use Rattle.std.specs.Option.{is_some}
use Rattle.rpki_der.specs.Prelude.{Format, around, each, sequence}
use Rattle.rpki_der.specs.Reading.{SpellsNothing}
use Rattle.rpki_text.specs.RsyncText.{rsync_refusal}
use Rattle.rpki.specs.ExtensionValue.{ExtensionParts}
use Rattle.rpki_cert.specs.Access.{ca_issuers, ca_repository, rpki_manifest, signed_object, rpki_notify, is_https}
use Rattle.rpki_cert.specs.AccessDescription.{Description, description}
use Rattle.rpki_cert.specs.Cert.{find}
use Rattle.rpki_cert.specs.Known.{authority_info_access, subject_info_access}
use Rattle.rpki_fields.specs.Field.{FieldParts, field_parts}
use Rattle.rpki_fields.specs.IdentifierText.{identifier_text}
use Rattle.rpki_fields.specs.Object.{SpellsOnly}
use Rattle.rpki_fields.specs.Sheet.{ListingParts, SheetParts, listing_parts, sheet_with}
use Rattle.rpki_fields.specs.ValueText.{hex_pair}

-- ---- the descriptions of an extension

-- access descriptions, in sequence, in a SEQUENCE: each a method and a general name
abbrev pub each_description : Format (List Description)
each_description = each description

abbrev pub any_access : Format (List Description)
any_access = around sequence each_description

-- those of an extension: none where it isn't there, or where its octets are no such descriptions
abbrev pub AreDescribed : Option ExtensionParts → List Description → Type 0
AreDescribed None ds = ds ≡ []
AreDescribed (Some x) ds =
    SpellsOnly any_access.spells ds x.content ⊎ (SpellsNothing any_access.spells x.content × (ds ≡ []))

-- ---- a description as an item

-- the name of a method (RFC 5280 4.2.2.1, 4.2.2.2, RFC 6487 4.8.8, RFC 8182 3.2); of another its arcs
abbrev pub method_name : List ℕ → List ℕ
method_name id =
    if bytes_eq id ca_issuers then codes "caIssuers"
    else if bytes_eq id ca_repository then codes "caRepository"
    else if bytes_eq id rpki_manifest then codes "rpkiManifest"
    else if bytes_eq id signed_object then codes "signedObject"
    else if bytes_eq id rpki_notify then codes "rpkiNotify"
    else identifier_text id

-- an octet of a URI: a reverse solidus, and one that isn't a visible character of ASCII, by its digits after a reverse
-- solidus
abbrev pub uri_octet : ℕ → List ℕ
uri_octet octet =
    if nat_lt octet 33 || nat_lt 126 octet || nat_eq octet 92 then 92 ∷ hex_pair octet else octet ∷ []

-- the URI; a name of another form is said to be that
abbrev pub location_field : Option (List ℕ) → FieldParts
location_field None = field_parts (codes "Location") (codes "not a URI")
location_field (Some text) = field_parts (codes "URI") (flat_map uri_octet text)

abbrev pub access_item : Description → List FieldParts
access_item d = field_parts (codes "Method") (method_name d.0) ∷ location_field d.1 ∷ []

-- ---- which of them fields show too

-- the text is an rsync URI
abbrev pub is_rsync : Option (List ℕ) → Bool
is_rsync None = false
is_rsync (Some text) = not (is_some (rsync_refusal text))

-- the description is of this method, and has an rsync URI; an https URI
abbrev pub is_rsync_of : List ℕ → Description → Bool
is_rsync_of method d = bytes_eq d.0 method && is_rsync d.1

abbrev pub is_https_of : List ℕ → Description → Bool
is_https_of method d = bytes_eq d.0 method && is_https d.1

abbrev pub one_if : Bool → ℕ
one_if false = 0
one_if true = 1

-- How many there are that fields show, each the first of its method: of authority information access; of the subject
-- information access of a certificate; and of that of the signer of an object.
abbrev pub issuer_shown : List Description → ℕ
issuer_shown ds = one_if (list_any (is_rsync_of ca_issuers) ds)

abbrev pub signer_shown : List Description → ℕ
signer_shown ds = one_if (list_any (is_rsync_of signed_object) ds)

abbrev pub subject_shown : List Description → ℕ
subject_shown ds =
    one_if (list_any (is_rsync_of ca_repository) ds) + one_if (list_any (is_rsync_of rpki_manifest) ds)
    + (signer_shown ds + one_if (list_any (is_https_of rpki_notify) ds))

-- ---- all of them

abbrev pub is_critical : Option ExtensionParts → Bool
is_critical None = false
is_critical (Some x) = x.critical

-- The descriptions under a label, of which fields show so many. Lines have them too where fields don't show all; they
-- show none of an extension that is critical.
abbrev pub access_listing : List ℕ → Option ExtensionParts → (shown : ℕ) → List Description → ListingParts
access_listing label x shown ds = listing_parts label (map access_item ds) (is_critical x || nat_lt shown (length ds))

-- the descriptions of an extension at the end of a sheet
abbrev pub HasListing : List ℕ → (shown : List Description → ℕ) → Option ExtensionParts → (sheet all : SheetParts)
    → Type 0
HasListing label shown x sheet all =
    (ds : List Description) × AreDescribed x ds × (all ≡ sheet_with (access_listing label x (shown ds) ds) sheet)

abbrev pub HasIssuerAccess : List ExtensionParts → (sheet all : SheetParts) → Type 0
HasIssuerAccess xs = HasListing (codes "Authority Information Access") issuer_shown (find authority_info_access xs)

abbrev pub HasSubjectAccess : (shown : List Description → ℕ) → List ExtensionParts → (sheet all : SheetParts) → Type 0
HasSubjectAccess shown xs = HasListing (codes "Subject Information Access") shown (find subject_info_access xs)

-- those of the issuer, and those of the subject, of which fields show so many
abbrev pub HasAccess : (shown : List Description → ℕ) → List ExtensionParts → (sheet all : SheetParts) → Type 0
HasAccess shown xs sheet all =
    (between : SheetParts) × HasIssuerAccess xs sheet between × HasSubjectAccess shown xs between all
