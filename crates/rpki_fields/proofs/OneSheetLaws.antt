-- An object has one sheet.
use Rattle.std.proofs.Common.{◌≡◌, ℕ, List, sym, ap, subst, ◌∙◌, inl, inr}
use Rattle.rpki.specs.ExtensionValue.{ExtensionParts}
use Rattle.rpki_cert.specs.Access.{SpellsRsyncAccess, ca_issuers, signed_object}
use Rattle.rpki_cert.specs.AccessDescription.{Description}
use Rattle.rpki_cert.specs.Cert.{TbsParts, find}
use Rattle.rpki_x509.specs.Authority.{SpellsAuthority}
use Rattle.rpki_cert.specs.Known.{subject_key_identifier, authority_info_access}
use Rattle.rpki_x509.specs.Authority.{authority_key_identifier}
use Rattle.rpki_cert.specs.Known.{subject_info_access}
use Rattle.rpki.specs.KeyIdentifier.{SpellsKeyIdentifier}
use Rattle.rpki_contents.specs.Aspa.{AspaParts}
use Rattle.rpki_contents.specs.Manifest.{ManifestParts}
use Rattle.rpki_contents.specs.Roa.{AttestationParts}
use Rattle.rpki_crl.specs.Crl.{Entry, ListParts, listed}
use Rattle.rpki_objects.specs.SignedObject.{ObjectParts}
use Rattle.rpki_objects.specs.TypedObject.{TypedParts}
use Rattle.std.specs.Prelude.{codes, false, Option, Some, None}
use Rattle.rpki_fields.specs.declared.object.Object.{Object}
use Rattle.rpki_fields.specs.declared.object.Object.TheVariants.{Certificate, Crl, Manifest, Roa}
use Rattle.rpki_fields.specs.declared.object.Object.TheVariants.{Aspa, SignedObject, OtherCertificate}
use Rattle.rpki_fields.specs.declared.object.Object.TheVariants.{Checklist, TrustAnchorKey, Ghostbusters}
use Rattle.rpki_fields.specs.AccessText.{AreDescribed, access_listing, issuer_shown, signer_shown, subject_shown}
use Rattle.rpki_fields.specs.AccessText.{HasListing, HasSubjectAccess, HasAccess}
use Rattle.rpki_fields.specs.CardText.{IsCardSheet}
use Rattle.rpki_fields.specs.ContentText.{AreManifestFields, IsManifestSheet, IsOriginSheet, IsProviderSheet}
use Rattle.rpki_fields.specs.ContentText.{IsOtherSheet}
use Rattle.rpki_fields.specs.Field.{FieldParts}
use Rattle.rpki_fields.specs.ListText.{AreListFields, IsEntryItem, IsListSheet}
use Rattle.rpki_fields.specs.ObjectText.{IsCertSheet, WithAccess, IsSheet}
use Rattle.rpki_fields.specs.Sheet.{SheetParts, plain_sheet, sheet_with}
use Rattle.rpki_fields.specs.SignedText.{AreSignerKeys, AreSignerNames, AreSignerPlaces, AreSignedFields}
use Rattle.rpki_fields.specs.SignedText.{SignedLabels, labels_of, manifest_labels}
use Rattle.rpki_fields.specs.ValueText.{colon_digits}
use Rattle.rpki_records.specs.Checklist.{checklist}
use Rattle.rpki_fields.specs.RecordText.{IsAnchorKeysSheet, IsChecklistSheet, ShowsChecklist}
use Rattle.rpki_fields.proofs.EachIsLaws.{one-each}
use Rattle.rpki_fields.proofs.RecordLaws.{one-shown}
use Rattle.rpki_fields.proofs.ResourceItemLaws.{one-resource-items}
use Rattle.rpki_fields.proofs.OtherTextLaws.{one-other-fields}
use Rattle.rpki_fields.proofs.OneTextLaws.{one-number, one-name-text, one-only, one-uri, one-fields}

-- ---- revocation lists

one-list-fields : (t : ListParts) (xs ys : List FieldParts) → AreListFields t xs → AreListFields t ys → xs ≡ ys
one-list-fields t xs ys g h =
    let issuer = one-name-text t.issuer g.0 h.0 g.2 h.2 in
    let number = one-number t.extensions.number g.1 h.1 g.3 h.3 in
    (rw (issuer, number) at g.4) ∙ sym h.4

one-entry-item : (e : Entry) (xs ys : List FieldParts) → IsEntryItem e xs → IsEntryItem e ys → xs ≡ ys
one-entry-item e xs ys g h = let serial = one-number e.0 g.0 h.0 g.1 h.1 in (rw serial at g.2) ∙ sym h.2

one-list-sheet : (t : ListParts) (a b : SheetParts) → IsListSheet t a → IsListSheet t b → a ≡ b
one-list-sheet t a b g h =
    let fields = one-list-fields t g.0 h.0 g.2 h.2 in
    let items = one-each IsEntryItem one-entry-item (listed t.revoked) g.1 h.1 g.3 h.3 in
    (rw (fields, items) at g.4) ∙ sym h.4

-- ---- signed objects

one-signer-keys : (es : List ExtensionParts) (xs ys : List FieldParts) → AreSignerKeys es xs → AreSignerKeys es ys
    → xs ≡ ys
one-signer-keys es xs ys g h =
    let subject = one-only subject_key_identifier false SpellsKeyIdentifier colon_digits es g.0 h.0 g.2 h.2 in
    let authority = one-only authority_key_identifier false SpellsAuthority colon_digits es g.1 h.1 g.3 h.3 in
    (rw (subject, authority) at g.4) ∙ sym h.4

one-signer-names : (t : TbsParts) (xs ys : List FieldParts) → AreSignerNames t xs → AreSignerNames t ys → xs ≡ ys
one-signer-names t xs ys g h =
    let issuer = one-name-text t.issuer g.0 h.0 g.2 h.2 in
    let serial = one-number t.serial g.1 h.1 g.3 h.3 in
    (rw (issuer, serial) at g.4) ∙ sym h.4

one-signer-places : (es : List ExtensionParts) (xs ys : List FieldParts) → AreSignerPlaces es xs → AreSignerPlaces es ys
    → xs ≡ ys
one-signer-places es xs ys g h =
    let issuer = one-uri authority_info_access (SpellsRsyncAccess ca_issuers) es g.0 h.0 g.2 h.2 in
    let object = one-uri subject_info_access (SpellsRsyncAccess signed_object) es g.1 h.1 g.3 h.3 in
    (rw (issuer, object) at g.4) ∙ sym h.4

one-signed-fields : (labels : SignedLabels) (x : ObjectParts) (xs ys : List FieldParts) → AreSignedFields labels x xs
    → AreSignedFields labels x ys → xs ≡ ys
one-signed-fields labels x xs ys g h =
    let keys = one-signer-keys x.cert.tbs.extensions g.keys h.keys g.are_keys h.are_keys in
    let names = one-signer-names x.cert.tbs g.names h.names g.are_names h.are_names in
    let places = one-signer-places x.cert.tbs.extensions g.places h.places g.are_places h.are_places in
    (rw (keys, names, places) at g.parts) ∙ sym h.parts

one-manifest-fields : (m : ManifestParts) (xs ys : List FieldParts) → AreManifestFields m xs → AreManifestFields m ys
    → xs ≡ ys
one-manifest-fields m xs ys g h = let number = one-number m.number g.0 h.0 g.1 h.1 in (rw number at g.2) ∙ sym h.2

one-manifest-sheet : (x : TypedParts ManifestParts) (a b : SheetParts) → IsManifestSheet x a → IsManifestSheet x b
    → a ≡ b
one-manifest-sheet x a b g h =
    let signed = one-signed-fields manifest_labels x.object g.0 h.0 g.2 h.2 in
    let own = one-manifest-fields x.content g.1 h.1 g.3 h.3 in
    (rw (signed, own) at g.4) ∙ sym h.4

one-origin-sheet : (x : TypedParts AttestationParts) (a b : SheetParts) → IsOriginSheet x a → IsOriginSheet x b → a ≡ b
one-origin-sheet x a b g h =
    let signed = one-signed-fields (labels_of (codes "roa")) x.object g.0 h.0 g.1 h.1 in
    (rw signed at g.2) ∙ sym h.2

one-provider-sheet : (x : TypedParts AspaParts) (a b : SheetParts) → IsProviderSheet x a → IsProviderSheet x b → a ≡ b
one-provider-sheet x a b g h = let signed = one-signed-fields (labels_of (codes "aspa")) x.object g.0 h.0 g.1 h.1 in
    (rw signed at g.2) ∙ sym h.2

one-other-sheet : (x : ObjectParts) (a b : SheetParts) → IsOtherSheet x a → IsOtherSheet x b → a ≡ b
one-other-sheet x a b g h = let signed = one-signed-fields (labels_of (codes "signed_object")) x g.0 h.0 g.1 h.1 in
    (rw signed at g.2) ∙ sym h.2

one-checklist-sheet : (x : ObjectParts) (a b : SheetParts) → IsChecklistSheet x a → IsChecklistSheet x b → a ≡ b
one-checklist-sheet x a b g h =
    let signed = one-signed-fields (labels_of (codes "rsc")) x g.0 h.0 g.1 h.1 in
    one-shown h.0 (checklist x.content.content) a b
    (subst (λ (w : List FieldParts). ShowsChecklist w (checklist x.content.content) a) signed g.2) h.2

one-anchor-keys-sheet : (x : ObjectParts) (a b : SheetParts) → IsAnchorKeysSheet x a → IsAnchorKeysSheet x b → a ≡ b
one-anchor-keys-sheet x a b g h = let signed = one-signed-fields (labels_of (codes "tak")) x g.0 h.0 g.1 h.1 in
    (rw signed at g.2) ∙ sym h.2

one-card-sheet : (x : ObjectParts) (a b : SheetParts) → IsCardSheet x a → IsCardSheet x b → a ≡ b
one-card-sheet x a b g h = let signed = one-signed-fields (labels_of (codes "gbr")) x g.0 h.0 g.1 h.1 in
    (rw signed at g.2) ∙ sym h.2

-- ---- certificates

one-cert-sheet : (octets : List ℕ) (t : TbsParts) (a b : SheetParts) → IsCertSheet octets t a → IsCertSheet octets t b
    → a ≡ b
one-cert-sheet octets t a b g h =
    let fields = one-fields octets t g.0 h.0 g.2 h.2 in
    let items = one-resource-items t.extensions g.1 h.1 g.3 h.3 in
    (rw (fields, items) at g.4) ∙ sym h.4

-- ---- access descriptions

one-described : (x : Option ExtensionParts) (a b : List Description) → AreDescribed x a → AreDescribed x b → a ≡ b
one-described None a b g h = g ∙ sym h
one-described (Some x) a b (inl g) (inl h) = h.1 a g.0
one-described (Some x) a b (inl g) (inr h) = absurd (h.0 a g.0)
one-described (Some x) a b (inr g) (inl h) = absurd (g.0 b h.0)
one-described (Some x) a b (inr g) (inr h) = g.1 ∙ sym h.1

one-listing : (label : List ℕ) (shown : List Description → ℕ) (x : Option ExtensionParts) (sheet a b : SheetParts)
    → HasListing label shown x sheet a → HasListing label shown x sheet b → a ≡ b
one-listing label shown x sheet a b g h =
    let ds = one-described x g.0 h.0 g.1 h.1 in
    g.2 ∙ ap (λ (w : List Description). sheet_with (access_listing label x (shown w) w) sheet) ds ∙ sym h.2

one-access : (shown : List Description → ℕ) (xs : List ExtensionParts) (sheet a b : SheetParts)
    → HasAccess shown xs sheet a → HasAccess shown xs sheet b → a ≡ b
one-access shown xs sheet a b g h =
    let between = one-listing (codes "Authority Information Access") issuer_shown (find authority_info_access xs) sheet
    g.0 h.0 g.1 h.1 in
    one-listing (codes "Subject Information Access") shown (find subject_info_access xs) h.0 a b
    (subst (λ (w : SheetParts). HasSubjectAccess shown xs w a) between g.2) h.2

with-access : (shown : List Description → ℕ) (t : TbsParts) (P : SheetParts → Type 0)
    → ((a b : SheetParts) → P a → P b → a ≡ b)
    → (a b : SheetParts) → WithAccess shown t P a → WithAccess shown t P b → a ≡ b
with-access shown t P one a b g h =
    let sheet = one g.0 h.0 g.1 h.1 in
    one-access shown t.extensions h.0 a b
    (subst (λ (w : SheetParts). HasAccess shown t.extensions w a) sheet g.2) h.2

-- ---- objects

pub one-sheet : (octets : List ℕ) (x : Object) (a b : SheetParts) → IsSheet octets x a → IsSheet octets x b → a ≡ b
one-sheet octets (Certificate c) a b g h =
    with-access subject_shown c.tbs (IsCertSheet octets c.tbs) (one-cert-sheet octets c.tbs) a b g h
one-sheet octets (Crl l) a b g h = one-list-sheet l.list a b g h
one-sheet octets (Manifest m) a b g h =
    with-access signer_shown m.object.cert.tbs (IsManifestSheet m) (one-manifest-sheet m) a b g h
one-sheet octets (Roa r) a b g h =
    with-access signer_shown r.object.cert.tbs (IsOriginSheet r) (one-origin-sheet r) a b g h
one-sheet octets (Aspa p) a b g h =
    with-access signer_shown p.object.cert.tbs (IsProviderSheet p) (one-provider-sheet p) a b g h
one-sheet octets (Checklist o) a b g h =
    with-access signer_shown o.cert.tbs (IsChecklistSheet o) (one-checklist-sheet o) a b g h
one-sheet octets (TrustAnchorKey o) a b g h =
    with-access signer_shown o.cert.tbs (IsAnchorKeysSheet o) (one-anchor-keys-sheet o) a b g h
one-sheet octets (Ghostbusters o) a b g h =
    with-access signer_shown o.cert.tbs (IsCardSheet o) (one-card-sheet o) a b g h
one-sheet octets (SignedObject o) a b g h =
    with-access signer_shown o.cert.tbs (IsOtherSheet o) (one-other-sheet o) a b g h
one-sheet octets (OtherCertificate c) a b g h = g.2
    ∙ ap (λ (fields : List FieldParts). plain_sheet fields) (one-other-fields octets c g.0 h.0 g.1 h.1) ∙ sym h.2
