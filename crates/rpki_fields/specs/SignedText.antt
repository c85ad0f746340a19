-- What is shown of each signed object: of the certificate of its signer, and when it was signed (RFC 6488 2).
use Rattle.std.specs.Prelude.{◌≡◌, ℕ, List, [], ◌∷◌, ◌++◌, codes, Option}
use Rattle.rpki.specs.ExtensionValue.{ExtensionParts}
use Rattle.rpki_cert.specs.Cert.{TbsParts}
use Rattle.rpki_cert.specs.Known.{authority_info_access, subject_info_access}
use Rattle.rpki_cert.specs.Access.{SpellsRsyncAccess, ca_issuers, signed_object}
use Rattle.rpki_objects.specs.SignedObject.{ObjectParts}
use Rattle.rpki_fields.specs.CertText.{IsSubjectText, IsAuthorityText, SaysUri}
use Rattle.rpki_fields.specs.Field.{FieldParts, field_parts, time_parts, field_if, time_if}
use Rattle.rpki_fields.specs.NameText.{IsNameText}
use Rattle.rpki_fields.specs.ValueText.{IsNumberText}

-- the identifiers of the keys of the signer and of its issuer
abbrev pub AreSignerKeys : List ExtensionParts → List FieldParts → Type 0
AreSignerKeys xs fields =
    (subject : Option (List ℕ)) × (authority : Option (List ℕ))
    × IsSubjectText xs subject × IsAuthorityText xs authority
    × (fields ≡ field_if (codes "SKI") subject ++ field_if (codes "AKI") authority)

-- the issuer and the serial number of the certificate
abbrev pub AreSignerNames : TbsParts → List FieldParts → Type 0
AreSignerNames t fields =
    (issuer serial : List ℕ) × IsNameText t.issuer issuer × IsNumberText t.serial serial
    × (fields ≡ field_parts (codes "Cert Issuer") issuer ∷ field_parts (codes "Cert Serial") serial ∷ [])

-- where the certificate of the issuer is, and where the object is
abbrev pub AreSignerPlaces : List ExtensionParts → List FieldParts → Type 0
AreSignerPlaces xs fields =
    (issuer : Option (List ℕ)) × (object : Option (List ℕ))
    × SaysUri authority_info_access (SpellsRsyncAccess ca_issuers) xs issuer
    × SaysUri subject_info_access (SpellsRsyncAccess signed_object) xs object
    × (fields ≡ field_if (codes "AIA") issuer ++ field_if (codes "SIA") object)

-- when the object was signed, where that is said, and the period of the certificate, under these labels
abbrev pub signed_times : (since until : List ℕ) → ObjectParts → List FieldParts
signed_times since until x =
    time_if (codes "Signing Time") x.signer.attributes.values.signing_time
    ++ time_parts since x.cert.tbs.validity.not_before ∷ time_parts until x.cert.tbs.validity.not_after ∷ []

-- What tells signed objects apart: the word for the type, and the labels of the period of the certificate, which is
-- that of an object that has none of its own.
pub record SignedLabels : Type 0 where
  pub type : List ℕ
  pub since : List ℕ
  pub until : List ℕ

abbrev pub signed_labels : (type since until : List ℕ) → SignedLabels
signed_labels type since until = record { type = type; since = since; until = until }

-- of an object without a period of its own
abbrev pub labels_of : (type : List ℕ) → SignedLabels
labels_of type = signed_labels type (codes "Valid Since") (codes "Valid Until")

-- of a manifest, whose period is that from this update to the next
abbrev pub manifest_labels : SignedLabels
manifest_labels = signed_labels (codes "manifest") (codes "Cert Valid Since") (codes "Cert Valid Until")

-- the fields of a signed object with these labels, in order
pub record AreSignedFields (labels : SignedLabels) (x : ObjectParts) (fields : List FieldParts) : Type 0 where
  pub keys : List FieldParts
  pub names : List FieldParts
  pub places : List FieldParts
  pub are_keys : AreSignerKeys x.cert.tbs.extensions keys
  pub are_names : AreSignerNames x.cert.tbs names
  pub are_places : AreSignerPlaces x.cert.tbs.extensions places
  pub parts : fields ≡ field_parts (codes "Type") labels.type ∷ keys ++ names ++ places
      ++ signed_times labels.since labels.until x
