-- What is shown of an object.
use Rattle.std.specs.Prelude.{◌≡◌, ℕ, false, List, codes}
use Rattle.rpki_cert.specs.Cert.{TbsParts}
use Rattle.rpki_cert.specs.AccessDescription.{Description}
use Rattle.rpki_fields.specs.declared.object.Object.{Object}
use Rattle.rpki_fields.specs.declared.object.Object.TheVariants.{Certificate, Crl, Manifest, Roa}
use Rattle.rpki_fields.specs.declared.object.Object.TheVariants.{Aspa, SignedObject, OtherCertificate}
use Rattle.rpki_fields.specs.declared.object.Object.TheVariants.{Checklist, TrustAnchorKey, Ghostbusters}
use Rattle.rpki_fields.specs.AccessText.{HasAccess, subject_shown, signer_shown}
use Rattle.rpki_fields.specs.CardText.{IsCardSheet}
use Rattle.rpki_fields.specs.CertText.{AreFields}
use Rattle.rpki_fields.specs.ContentText.{IsManifestSheet, IsOriginSheet, IsProviderSheet, IsOtherSheet}
use Rattle.rpki_fields.specs.Field.{FieldParts}
use Rattle.rpki_fields.specs.ListText.{IsListSheet}
use Rattle.rpki_fields.specs.OtherText.{AreOtherFields}
use Rattle.rpki_fields.specs.RecordText.{IsAnchorKeysSheet, IsChecklistSheet}
use Rattle.rpki_fields.specs.ResourceItems.{AreResourceItems}
use Rattle.rpki_fields.specs.Sheet.{SheetParts, listing_parts, plain_sheet, sheet_with}

-- the sheet of a certificate: its fields, and, in JSON, its resources block by block
abbrev pub IsCertSheet : List ℕ → TbsParts → SheetParts → Type 0
IsCertSheet octets t s =
    (fields : List FieldParts) × (items : List (List FieldParts)) × AreFields octets t fields
    × AreResourceItems t.extensions items
    × (s ≡ sheet_with (listing_parts (codes "Subordinate Resources") items false) (plain_sheet fields))

-- the sheet that has P, with the access descriptions of the certificate at its end
abbrev pub WithAccess : (List Description → ℕ) → TbsParts → (SheetParts → Type 0) → SheetParts → Type 0
WithAccess shown t P s = (sheet : SheetParts) × P sheet × HasAccess shown t.extensions sheet s

-- the sheet of the object that these octets are
abbrev pub IsSheet : List ℕ → Object → SheetParts → Type 0
IsSheet octets (Certificate c) s = WithAccess subject_shown c.tbs (IsCertSheet octets c.tbs) s
IsSheet octets (Crl l) s = IsListSheet l.list s
IsSheet octets (Manifest m) s = WithAccess signer_shown m.object.cert.tbs (IsManifestSheet m) s
IsSheet octets (Roa r) s = WithAccess signer_shown r.object.cert.tbs (IsOriginSheet r) s
IsSheet octets (Aspa a) s = WithAccess signer_shown a.object.cert.tbs (IsProviderSheet a) s
IsSheet octets (Checklist o) s = WithAccess signer_shown o.cert.tbs (IsChecklistSheet o) s
IsSheet octets (TrustAnchorKey o) s = WithAccess signer_shown o.cert.tbs (IsAnchorKeysSheet o) s
IsSheet octets (Ghostbusters o) s = WithAccess signer_shown o.cert.tbs (IsCardSheet o) s
IsSheet octets (SignedObject o) s = WithAccess signer_shown o.cert.tbs (IsOtherSheet o) s
IsSheet octets (OtherCertificate c) s =
    (fields : List FieldParts) × AreOtherFields octets c fields × (s ≡ plain_sheet fields)
