-- The objects of a repository, each of a kind.
use Rattle.std.specs.Prelude.{◌≡◌, ◌⊎◌, ℕ, true, false, List, Option, Some, None}
use Rattle.rpki_der.specs.declared.error.DecodeError.{DecodeError}
use Rattle.rpki_der.specs.declared.error.DecodeError.TheVariants.{OutOfMemory}
use Rattle.rpki_der.specs.Reading.{SpellsNothing, IsWholeFault, UnlessMemory}
use Rattle.rpki_cert.specs.Cert.{TbsParts, CertParts, SpellsCert}
use Rattle.rpki_cert.specs.CertFault.{IsCertFault}
use Rattle.rpki_contents.specs.Aspa.{AspaParts}
use Rattle.rpki_contents.specs.Manifest.{ManifestParts}
use Rattle.rpki_contents.specs.Roa.{AttestationParts}
use Rattle.rpki_crl.specs.Crl.{CrlParts, crl}
use Rattle.rpki_objects.specs.SignedObject.{ObjectParts, ObjectFields, object_fields_of, signed_object}
use Rattle.rpki_objects.specs.Strictness.{none_strict}
use Rattle.rpki_objects.specs.TypedObject.{TypedParts, manifest_object, origin_object, aspa_object}
use Rattle.rpki_fields.specs.declared.object_type.ObjectType.{ObjectType}
use Rattle.rpki_fields.specs.declared.object_type.ObjectType.TheVariants as K
use Rattle.rpki_fields.specs.declared.object.Object.{Object}
use Rattle.rpki_fields.specs.declared.object.Object.TheVariants.{Certificate, Crl, Manifest, Roa}
use Rattle.rpki_fields.specs.declared.object.Object.TheVariants.{Aspa, SignedObject, OtherCertificate}
use Rattle.rpki_fields.specs.declared.object.Object.TheVariants.{Checklist, TrustAnchorKey, Ghostbusters}
use Rattle.rpki_fields.specs.OtherCert.{OtherCertParts, other_cert, cert_fields_of, has_other}
use Rattle.rpki_fields.specs.OtherText.{objection}
use Rattle.rpki_fields.specs.Record.{IsAnchorKeysFault, IsAnchorKeysObject, IsCardFault, IsCardObject}
use Rattle.rpki_fields.specs.Record.{IsChecklistFault, IsChecklistObject}

-- the octets spell this value, and no other
abbrev pub SpellsOnly : {V : Type 0} → (V → List ℕ → Type 0) → V → List ℕ → Type 0
SpellsOnly {V} G v octets = G v octets × ((w : V) → G w octets → w ≡ v)

-- a signed object by its fields
abbrev pub SpellsFields : ObjectFields → List ℕ → Type 0
SpellsFields = (signed_object false).spells

-- a certificate with an algorithm that the RPKI doesn't use, and no other
abbrev pub IsOtherCert : List ℕ → OtherCertParts → Type 0
IsOtherCert octets c = SpellsOnly other_cert.spells (cert_fields_of c) octets × (has_other c ≡ true)

-- the octets are no such certificate
abbrev pub NoOtherCert : List ℕ → Type 0
NoOtherCert octets = (c : OtherCertParts) → other_cert.spells (cert_fields_of c) octets → has_other c ≡ true → ⊥

-- The octets are a certificate in the profile of the RPKI; or they are none, and one of other algorithms.
abbrev pub IsCertificate : List ℕ → Object → Type 0
IsCertificate octets x =
    ((c : CertParts) × SpellsOnly SpellsCert c octets × (x ≡ Certificate c))
    ⊎ (SpellsNothing SpellsCert octets × (c : OtherCertParts) × IsOtherCert octets c × (x ≡ OtherCertificate c))

-- the octets are this signed object, and no other, and P says that its content is well
abbrev pub IsObjectWith : (ObjectParts → Type 0) → (ObjectParts → Object) → List ℕ → Object → Type 0
IsObjectWith P named octets x =
    (o : ObjectParts) × SpellsOnly SpellsFields (object_fields_of o) octets × P o × (x ≡ named o)

-- The octets are this object, which is of the kind, and no other. Of signed objects the attributes and the order of
-- families are read as they were before RFC 9589 and RFC 9582 4.3.3.
abbrev pub IsOf : ObjectType → List ℕ → Object → Type 0
IsOf K.Certificate octets x = IsCertificate octets x
IsOf K.Crl octets x = (l : CrlParts) × SpellsOnly crl.spells l octets × (x ≡ Crl l)
IsOf K.Manifest octets x =
    (m : TypedParts ManifestParts) × SpellsOnly (manifest_object false).spells m octets × (x ≡ Manifest m)
IsOf K.Roa octets x =
    (r : TypedParts AttestationParts) × SpellsOnly (origin_object none_strict).spells r octets × (x ≡ Roa r)
IsOf K.Aspa octets x =
    (a : TypedParts AspaParts) × SpellsOnly (aspa_object false).spells a octets × (x ≡ Aspa a)
IsOf K.Checklist octets x = IsObjectWith IsChecklistObject Checklist octets x
IsOf K.TrustAnchorKey octets x = IsObjectWith IsAnchorKeysObject TrustAnchorKey octets x
IsOf K.Ghostbusters octets x = IsObjectWith IsCardObject Ghostbusters octets x
IsOf K.SignedObject octets x =
    (o : ObjectParts) × SpellsOnly SpellsFields (object_fields_of o) octets × (x ≡ SignedObject o)

-- the octets spell nothing, and the error is the one that is due; or allocation failed
abbrev pub IsUnspelled : {V : Type 0} → (V → List ℕ → Type 0) → (List ℕ → DecodeError → Type 0) → List ℕ → DecodeError
    → Type 0
IsUnspelled G K octets e = UnlessMemory e (SpellsNothing G octets) × IsWholeFault G K octets e

-- The octets are no certificate, with the error of one in the profile of the RPKI; or there was no memory to read one
-- of other algorithms.
pub data IsNoCertificate (octets : List ℕ) (e : DecodeError) : Type 0 where
  Neither : IsUnspelled SpellsCert IsCertFault octets e → UnlessMemory e (NoOtherCert octets) → IsNoCertificate octets e
  Lacking : e ≡ OutOfMemory → IsUnspelled other_cert.spells other_cert.fault octets e
      → IsNoCertificate octets e

-- the octets are no signed object; or they are one, and F says this error of its content
pub data IsNoObjectWith (F : ObjectParts → DecodeError → Type 0) (octets : List ℕ) (e : DecodeError) : Type 0 where
  NoObject : IsUnspelled SpellsFields (signed_object false).fault octets e → IsNoObjectWith F octets e
  OtherContent : (o : ObjectParts) → SpellsOnly SpellsFields (object_fields_of o) octets → F o e
      → IsNoObjectWith F octets e

-- the octets are no object of the kind
abbrev pub IsNone : ObjectType → List ℕ → DecodeError → Type 0
IsNone K.Certificate = IsNoCertificate
IsNone K.Crl = IsUnspelled crl.spells crl.fault
IsNone K.Manifest = IsUnspelled (manifest_object false).spells (manifest_object false).fault
IsNone K.Roa = IsUnspelled (origin_object none_strict).spells (origin_object none_strict).fault
IsNone K.Aspa = IsUnspelled (aspa_object false).spells (aspa_object false).fault
IsNone K.Checklist = IsNoObjectWith IsChecklistFault
IsNone K.TrustAnchorKey = IsNoObjectWith IsAnchorKeysFault
IsNone K.Ghostbusters = IsNoObjectWith IsCardFault
IsNone K.SignedObject = IsUnspelled SpellsFields (signed_object false).fault

-- the certificate in the profile of the RPKI that an object is, or that its signer has; a revocation list has none
abbrev pub cert_of : Object → Option TbsParts
cert_of (Certificate c) = Some c.tbs
cert_of (Crl l) = None
cert_of (Manifest m) = Some m.object.cert.tbs
cert_of (Roa r) = Some r.object.cert.tbs
cert_of (Aspa a) = Some a.object.cert.tbs
cert_of (Checklist o) = Some o.cert.tbs
cert_of (TrustAnchorKey o) = Some o.cert.tbs
cert_of (Ghostbusters o) = Some o.cert.tbs
cert_of (SignedObject o) = Some o.cert.tbs
cert_of (OtherCertificate c) = None

-- what the RPKI doesn't use of an object
abbrev pub objection_to : Object → Option (List ℕ)
objection_to (Certificate c) = None
objection_to (Crl l) = None
objection_to (Manifest m) = None
objection_to (Roa r) = None
objection_to (Aspa a) = None
objection_to (Checklist o) = None
objection_to (TrustAnchorKey o) = None
objection_to (Ghostbusters o) = None
objection_to (SignedObject o) = None
objection_to (OtherCertificate c) = Some (objection c)
