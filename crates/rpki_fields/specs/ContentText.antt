-- What is shown of the contents of signed objects (RFC 9286 4.2, RFC 9582 4, draft-ietf-sidrops-aspa-profile 3).
use Rattle.std.specs.Prelude.{◌≡◌, ℕ, List, [], ◌∷◌, ◌++◌, map, length, codes}
use Rattle.std.specs.Net.Text.{ip_text}
use Rattle.base64.specs.Engines.{standard}
use Rattle.base64.specs.GeneralPurpose.{encode_of}
use Rattle.rpki_contents.specs.Aspa.{AspaParts}
use Rattle.rpki_contents.specs.ListedFile.{ListedFile}
use Rattle.rpki_contents.specs.Manifest.{ManifestParts}
use Rattle.rpki_contents.specs.Roa.{AttestationParts}
use Rattle.rpki_contents.specs.RouteOrigin.{origins}
use Rattle.rpki_contents.specs.declared.route_origin.RouteOrigin.{RouteOrigin}
use Rattle.rpki_objects.specs.SignedObject.{ObjectParts}
use Rattle.rpki_objects.specs.TypedObject.{TypedParts}
use Rattle.rpki_resources.specs.Text.{prefix_text}
use Rattle.rpki_fields.specs.Field.{FieldParts, field_parts, number_parts, time_parts}
use Rattle.rpki_fields.specs.Sheet.{SheetParts, plain_sheet, list_sheet}
use Rattle.rpki_fields.specs.SignedText.{AreSignedFields, labels_of, manifest_labels}
use Rattle.rpki_fields.specs.IdentifierText.{identifier_text}
use Rattle.rpki_fields.specs.ValueText.{IsNumberText}

-- ---- manifests

-- the number, and the times of this update and of the next
abbrev pub AreManifestFields : ManifestParts → List FieldParts → Type 0
AreManifestFields m fields =
    (number : List ℕ) × IsNumberText m.number number
    × (fields ≡ field_parts (codes "Manifest Number") number
    ∷ time_parts (codes "Valid Since") m.this_update ∷ time_parts (codes "Valid Until") m.next_update ∷ [])

-- a file, and the digest of its octets by SHA-256, in base 64 (RFC 4648 4)
abbrev pub file_item : ListedFile → List FieldParts
file_item x = field_parts (codes "Filename") x.0 ∷ field_parts (codes "Hash") (encode_of standard x.1) ∷ []

-- the fields of the object, those of the manifest, and each file, in the order of the list
abbrev pub IsManifestSheet : TypedParts ManifestParts → SheetParts → Type 0
IsManifestSheet x s =
    (signed : List FieldParts) × (own : List FieldParts) × AreSignedFields manifest_labels x.object signed
    × AreManifestFields x.content own
    × (s ≡ list_sheet (signed ++ own) (codes "FilesAndHashes") (map file_item x.content.files))

-- ---- route origin attestations

-- a prefix, the AS that may announce it, and how long the prefixes in it may be: as long as it is, where that is left
-- out (RFC 9582 4.3.2.2)
abbrev pub origin_item : RouteOrigin → List FieldParts
origin_item x =
    field_parts (codes "Prefix") (prefix_text (ip_text x.address.prefix.addr) x.address.prefix.len)
    ∷ number_parts (codes "ASID") x.as_id ∷ number_parts (codes "MaxLen") x.address.max_length ∷ []

-- the fields of the object, the AS number, and each prefix, of IP version 4 before IP version 6
abbrev pub IsOriginSheet : TypedParts AttestationParts → SheetParts → Type 0
IsOriginSheet x s =
    (signed : List FieldParts) × AreSignedFields (labels_of (codes "roa")) x.object signed
    × (s ≡ list_sheet (signed ++ number_parts (codes "ASID") x.content.as_id ∷ []) (codes "VRPs")
    (map origin_item (origins x.content)))

-- ---- attestations of providers

abbrev pub provider_item : ℕ → List FieldParts
provider_item number = number_parts (codes "ASID") number ∷ []

-- the fields of the object, the customer, and each provider
abbrev pub IsProviderSheet : TypedParts AspaParts → SheetParts → Type 0
IsProviderSheet x s =
    (signed : List FieldParts) × AreSignedFields (labels_of (codes "aspa")) x.object signed
    × (s ≡ list_sheet (signed ++ number_parts (codes "Customer ASID") x.content.customer ∷ []) (codes "Provider Set")
    (map provider_item x.content.providers))

-- ---- other contents

-- the fields of the object, the identifier of the content's type, and how many octets the content has
abbrev pub IsOtherSheet : ObjectParts → SheetParts → Type 0
IsOtherSheet x s =
    (signed : List FieldParts) × AreSignedFields (labels_of (codes "signed_object")) x signed
    × (s ≡ plain_sheet (signed ++ field_parts (codes "Content Type") (identifier_text x.content.content_type)
    ∷ number_parts (codes "Content Size") (length x.content.content) ∷ []))
