-- What a status says of a signed object.
use Rattle.std.specs.Prelude.{◌≡◌, ◌↔◌, ◌<◌, ℕ, Bool, true, false, List, Option, None, Some, IsTrue, length, ◌⊎◌, []}
use Rattle.std.specs.Prelude.{◌∷◌, bytes_eq, if◌then◌else◌}
use Rattle.jiff.specs.Types.{DateTime}
use Rattle.rpki_cert.specs.View.{most_extensions}
use Rattle.rpki_objects.specs.declared.object_part.ObjectPart.{ObjectPart}
use Rattle.rpki_attributes.specs.SignedAttributes.{AttributeValues, message_of}
use Rattle.rpki_objects.specs.SignedObject.{SignerParts, signer_fields_of, signer_fields, ObjectParts, data_fields_of}
use Rattle.rpki_objects.specs.SignedObject.{data_fields, object_fields_of, signed_object}
use Rattle.rpki_der.specs.Error.{error_number}
use Rattle.rpki_objects.specs.SignedObjectView.{IsObjectError, IsObjectWrong}
use Rattle.rpki_parse.specs.declared.malformed.Malformed.{Malformed}
use Rattle.rpki_c.specs.declared.signed_object.SignedObjectParts.{SignedObjectParts as Parts, SignedObjectParts}
use Rattle.rpki_c.specs.declared.times.Moment.{Moment}
use Rattle.rpki_c.specs.Certificate.{part_number, known_number}
use Rattle.rpki_c.specs.Time.{IsMoment}
use Rattle.rpki_c.specs.Whole.{IsRead}
use Rattle.sha2.specs.Sha256.{sha256}
use Rattle.rpki_cert.specs.declared.extension.known_view.KnownView.{KnownView}
use Rattle.rpki_cert.specs.declared.extension.known_part.KnownPart.{KnownPart}
use Rattle.rpki_cert.specs.Cert.{CertParts}
use Rattle.rpki_cert.specs.KnownView.{AreKnown, IsFirstWrong}
use Rattle.rpki_c.specs.Key.{IsVerifiedBy}
use Rattle.rpki_c.specs.Status.{other_type, other_digest, other_signer}
use Rattle.rpki_cert.specs.declared.profile.Profile.TheVariants.{Ee}
use Rattle.rpki_c.specs.declared.certificate.CertificateParts.{CertificateParts}
use Rattle.rpki_c.specs.declared.certificate_extensions.KnownExtensions.{KnownExtensions}
use Rattle.rpki_c.specs.CertificateProfile.{HasAll, IsRefusedAs}
use Rattle.rpki_objects.specs.declared.object_part.ObjectPart.TheVariants as P

-- ---- What a status says of the octets of a signed object

-- the status of octets of which this part is wrong
abbrev pub object_part_number : ObjectPart → ℕ
object_part_number P.Object = 123
object_part_number P.ObjectType = 124
object_part_number P.SignedData = 125
object_part_number P.Version = 126
object_part_number P.DigestAlgorithms = 127
object_part_number P.Content = 128
object_part_number P.Certificates = 129
object_part_number (P.Certificate q) = part_number q
object_part_number P.Signers = 130
object_part_number P.Signer = 131
object_part_number P.SignerVersion = 132
object_part_number P.SignerIdentifier = 133
object_part_number P.SignerDigestAlgorithm = 134
object_part_number P.SignedAttrs = 135
object_part_number P.SignatureAlgorithm = 136
object_part_number P.Signature = 137

-- the time is there, and this moment; or it isn't
abbrev pub IsMomentIf : Option DateTime → Bool → Moment → Type 0
IsMomentIf None has m = has ≡ false
IsMomentIf (Some t) has m = (has ≡ true) × IsMoment t m

-- the number is there; or it isn't, and is passed as 0
abbrev pub IsNumberIf : Option ℕ → Bool → ℕ → Type 0
IsNumberIf None has n = (has ≡ false) × (n ≡ 0)
IsNumberIf (Some m) has n = (has ≡ true) × (n ≡ m)

-- what the signed attributes say
pub record HasValues (v : AttributeValues) (p : Parts) : Type 0 where
  pub message_digest : p.message_digest ≡ v.message_digest
  pub signing_time : IsMomentIf v.signing_time p.has_signing_time p.signing_time
  pub binary_signing_time : IsNumberIf v.binary_signing_time p.has_binary_signing_time p.binary_signing_time

-- the parts of a signer; h says which octets spell which. What is signed is made of the signed attributes (RFC 5652
-- 5.4).
pub record HasSigner (strict : Bool) (x : SignerParts) (d : List ℕ)
    (h : (signer_fields strict).spells (signer_fields_of x) d) (p : Parts) : Type 0 where
  pub signed_attributes : p.signed_attributes.octets.now ≡ h.two.two.two.first
  pub message : x.attributes.message ≡ message_of p.signed_attributes.octets.now
  pub signature : p.signature.octets.now ≡ x.signature.value
  pub identifier : p.signer_identifier ≡ x.identifier
  pub parameters : p.has_parameters ≡ x.signature.algorithm
  pub values : HasValues x.attributes.values p

-- the same of the parts of signed data
pub record HasData (strict : Bool) (x : ObjectParts) (d : List ℕ)
    (h : (data_fields strict).spells (data_fields_of x) d) (p : Parts) : Type 0 where
  pub content_type : p.content_type.octets.now ≡ x.content.content_type
  pub content : p.content.octets.now ≡ x.content.content
  pub certificate : p.certificate.octets.now ≡ h.two.two.two.one.contents
  pub signer : HasSigner strict x.signer h.two.two.two.two.spelled.contents h.two.two.two.two.spelled.spelled p
  pub is_type_signed : IsTrue p.is_type_signed
      ↔ (x.content.content_type ≡ x.signer.attributes.values.content_type)

-- the octets are a signed object, whose parts these are, as the grammar divides the octets
pub record HasObject (strict : Bool) (s : List ℕ) (p : Parts) : Type 0 where
  pub object : ObjectParts
  pub spelled : (signed_object strict).spells (object_fields_of object) s
  pub parts : HasData strict object spelled.spelled.two.spelled.contents spelled.spelled.two.spelled.spelled p

-- the octets of its certificate in those of an object, as the grammar divides these
abbrev pub certificate_in : (strict : Bool) (x : ObjectParts) (s : List ℕ)
    → (signed_object strict).spells (object_fields_of x) s → List ℕ
certificate_in strict x s h = h.spelled.two.spelled.spelled.two.two.two.one.contents

-- the octets are no signed object, but for one whose certificate has more extensions than are compared
abbrev pub IsNoObject : Bool → List ℕ → Type 0
IsNoObject strict s =
    (x : ObjectParts) → (signed_object strict).spells (object_fields_of x) s
    → most_extensions < length x.cert.tbs.extensions

-- Status 0: the octets are a signed object of these parts. Else the number of the malformed part, and nothing is
-- written.
abbrev pub IsObjectRead : Bool → List ℕ → ℕ → Parts → Parts → Type 0
IsObjectRead strict s =
    IsRead (HasObject strict s) object_part_number (λ q. IsObjectWrong strict s q × IsNoObject strict s)

-- Status 0: the octets are a signed object, and nothing is written. Else the number of the malformed part, and the
-- number of the error, as a reader of that part returns it, is written.
abbrev pub IsObjectErrorRead : Bool → List ℕ → ℕ → ℕ → ℕ → Type 0
IsObjectErrorRead strict s status old new =
    ((status ≡ 0) × ((x : ObjectParts) × (signed_object strict).spells (object_fields_of x) s) × (new ≡ old))
    ⊎ ((q : Malformed ObjectPart) × IsObjectError strict s q × IsNoObject strict s
    × (status ≡ object_part_number q.part) × (new ≡ error_number q.error))

-- ---- What a status says of a signed object, and of whether the key of its certificate has signed it (RFC 6488 3)

-- the type of the content is the one that is signed (RFC 5652 11.1)
abbrev pub HasSignedType : ObjectParts → Type 0
HasSignedType x = x.content.content_type ≡ x.signer.attributes.values.content_type

-- the digest of the content is the one that is signed (RFC 5652 11.2)
abbrev pub HasSignedDigest : ObjectParts → Type 0
HasSignedDigest x = x.signer.attributes.values.message_digest ≡ sha256 x.content.content

-- both are
abbrev pub HasSignedContent : ObjectParts → Type 0
HasSignedContent x = HasSignedType x × HasSignedDigest x

-- Of a certificate whose extensions say this, the signer's identifier, the message and the signature. 56: the
-- identifier is not the certificate's subject key identifier (RFC 6488 3, 2.1.6.2). Else it is, and the status is that
-- of the signature.
abbrev pub IsSignerTold : CertParts → KnownView → List ℕ → List ℕ → List ℕ → ℕ → Type 0
IsSignerTold x known identifier message signature status =
    ((status ≡ other_signer) × (known.subject_key_identifier ≡ Some identifier → ⊥))
    ⊎ ((known.subject_key_identifier ≡ Some identifier) × IsVerifiedBy x.tbs.key message signature status)

-- 80 to 84: the extension of this number, and none before it, is malformed or not as critical as it has to be. Else the
-- extensions say what is said of the signer.
abbrev pub IsCertTold : CertParts → List ℕ → List ℕ → List ℕ → ℕ → Type 0
IsCertTold x identifier message signature status =
    ((q : KnownPart) × (status ≡ known_number q) × IsFirstWrong x.tbs.extensions q)
    ⊎ ((known : KnownView) × AreKnown x.tbs.extensions known
    × IsSignerTold x known identifier message signature status)

-- 55: the type of the content is not the one that is signed. 54: it is, and the digest is not.
abbrev pub IsContentWrong : ObjectParts → ℕ → Type 0
IsContentWrong x status =
    ((status ≡ other_type) × (HasSignedType x → ⊥))
    ⊎ ((status ≡ other_digest) × HasSignedType x × (HasSignedDigest x → ⊥))

-- Of the content; or it is as it is signed, and it is the certificate or the signer of which the status tells.
abbrev pub IsToldOfObject : ObjectParts → ℕ → Type 0
IsToldOfObject x status =
    IsContentWrong x status
    ⊎ (HasSignedContent x
    × IsCertTold x.cert x.signer.identifier x.signer.attributes.message x.signer.signature.value status)

-- 64 to 137: this part of the object is wrong. Else the octets are a signed object.
abbrev pub IsObjectVerified : Bool → List ℕ → ℕ → Type 0
IsObjectVerified strict s status =
    ((q : ObjectPart) × (status ≡ object_part_number q) × IsObjectWrong strict s q × IsNoObject strict s)
    ⊎ ((x : ObjectParts) × (signed_object strict).spells (object_fields_of x) s × IsToldOfObject x status)

-- ---- What a status says of a signed object of which all is asked at once, with its signer's certificate

-- what is written: the parts of an object, and those and the extensions of its certificate
pub record Written : Type 0 where
  pub object : SignedObjectParts
  pub certificate : CertificateParts
  pub extensions : KnownExtensions

abbrev pub written : SignedObjectParts → CertificateParts → KnownExtensions → Written
written object certificate extensions =
    record { object = object; certificate = certificate; extensions = extensions }

-- the octets are a signed object, whose certificate has the profile of an end entity, and these are its parts
pub record HasChecked (attributes names : Bool) (s : List ℕ) (w : Written) : Type 0 where
  pub object : HasObject attributes s w.object
  pub certificate : HasAll w.object.certificate.octets.now Ee names w.certificate w.extensions

-- 64 to 137: this part of the object is wrong. Else the octets are a signed object, and 80 to 119: its certificate
-- doesn't have the profile.
abbrev pub IsRefusedObject : Bool → Bool → List ℕ → ℕ → Type 0
IsRefusedObject attributes names s status =
    ((q : ObjectPart) × (status ≡ object_part_number q) × IsObjectWrong attributes s q × IsNoObject attributes s)
    ⊎ ((x : ObjectParts) × (h : (signed_object attributes).spells (object_fields_of x) s)
    × IsRefusedAs (certificate_in attributes x s h) Ee names status)

-- Status 0: the octets are all that is asked. Else nothing is written.
abbrev pub IsObjectChecked : Bool → Bool → List ℕ → ℕ → Written → Written → Type 0
IsObjectChecked attributes names s status old new =
    ((status ≡ 0) × HasChecked attributes names s new) ⊎ (IsRefusedObject attributes names s status × (new ≡ old))

-- ---- The types of what signed objects contain, by their identifiers (RFC 5652 3)

-- 1.2.840.113549.1.9.16.1, id-ct, and one arc more below 128
abbrev pub content_type : ℕ → List ℕ
content_type arc = 42 ∷ 134 ∷ 72 ∷ 134 ∷ 247 ∷ 13 ∷ 1 ∷ 9 ∷ 16 ∷ 1 ∷ arc ∷ []

-- How a type is passed: route origin attestations (RFC 9582 3), manifests (RFC 9286 4.1), attestations of providers
-- (draft-ietf-sidrops-aspa-profile), contacts (RFC 6493 6), signed checklists (RFC 9323 3), keys of trust anchors (RFC
-- 9691 4); and any other.
abbrev pub content_type_number : List ℕ → ℕ
content_type_number s =
    if bytes_eq s (content_type 24) then 1 else
    if bytes_eq s (content_type 26) then 2 else
    if bytes_eq s (content_type 49) then 3 else
    if bytes_eq s (content_type 35) then 4 else
    if bytes_eq s (content_type 48) then 5 else
    if bytes_eq s (content_type 50) then 6 else 0
