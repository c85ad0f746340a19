-- What an object is checked against: by itself, and to a certificate that has to be its issuer and a moment, where
-- these are asked for.
use Rattle.std.specs.Prelude.{◌≡◌, ◌⊎◌, ◌≤ℤ◌, Bool, Option, Some, None, option_map, codes, bytes_eq}
use Rattle.std.specs.Prelude.{if◌then◌else◌}
use Rattle.jiff.specs.Types.{DateTime}
use Rattle.jiff.specs.Words.{civil_nanos}
use Rattle.sha1.specs.Sha1.{sha1}
use Rattle.sha2.specs.Sha256.{sha256}
use Rattle.rpki.specs.declared.repository.error.ValidationError.{ValidationError}
use Rattle.rpki.specs.Provider.{Check, Checkers}
use Rattle.rpki_rsa.specs.Key.{IsSignatureBy}
use Rattle.rpki_time.specs.Validity.{Period, HoldsAt}
use Rattle.rpki_cert.specs.Cert.{TbsParts, CertParts}
use Rattle.rpki_valid.specs.ErrorTexts.{not_inherited_text, revoked_text}
use Rattle.rpki_valid.specs.Revocation.{IsUnrevoked}
use Rattle.rpkicert.specs.Fault.{bad_text}
use Rattle.rpki_valid.specs.Valid.{HasReason, IsPeriodError, Unless, IsSignedBy, IsIssued, IsUnissued}
use Rattle.rpki_contents.specs.Manifest.{ManifestParts, period_of}
use Rattle.rpki_crl.specs.Crl.{CrlParts}
use Rattle.rpki_valid.specs.ObjectResources.{AreInherited}
use Rattle.rpki_valid.specs.ObjectVerified.{IsSignedObject, IsUnsignedObject}
use Rattle.rpki_valid.specs.Processed.{KeepsOwnOriginRules, IsOwnOriginError, KeepsOwnAspaRules, IsOwnAspaError}
use Rattle.rpki_objects.specs.SignedObject.{ObjectParts}
use Rattle.rpki_fields.specs.declared.object.Object.{Object}
use Rattle.rpki_fields.specs.declared.object.Object.TheVariants.{Certificate, Crl, Manifest, Roa}
use Rattle.rpki_fields.specs.declared.object.Object.TheVariants.{Aspa, SignedObject, OtherCertificate}
use Rattle.rpki_fields.specs.declared.object.Object.TheVariants.{Checklist, TrustAnchorKey, Ghostbusters}
use Rattle.rpkicert.specs.declared.profile.Inspection.{Inspection}
use Rattle.rpkicert.specs.declared.fault.Clause.{Clause}
use Rattle.rpkicert.specs.declared.fault.Clause.TheVariants as C
use Rattle.rpkicert.specs.declared.fault.Fault.{Fault}
use Rattle.rpkicert.specs.declared.fault.Fault.TheVariants.{Unverified, OutOfMemory}

-- a profile, the certificate of the issuer, its revocation list, and a moment; each may not be asked for
pub record TermParts : Type 0 where
  pub inspection : Option Inspection
  pub issuer : Option TbsParts
  pub revocations : Option CrlParts
  pub moment : Option DateTime

abbrev pub term_parts : Option Inspection → Option TbsParts → Option CrlParts → Option DateTime → TermParts
term_parts inspection issuer revocations moment =
    record { inspection = inspection; issuer = issuer; revocations = revocations; moment = moment }

-- an object is checked against nothing
abbrev pub no_terms : TermParts
no_terms = term_parts None None None None

-- a revocation list is checked to be of this issuer, and between its updates at the moment, where that is asked for
abbrev pub list_terms : TbsParts → Option DateTime → TermParts
list_terms issuer moment = term_parts None (Some issuer) None moment

-- ---- what an object has that has an issuer, or holds for a time

-- the certificate that the object is, or that of its signer
abbrev pub signer_of : Object → Option CertParts
signer_of (Certificate c) = Some c
signer_of (Crl l) = None
signer_of (Manifest m) = Some m.object.cert
signer_of (Roa r) = Some r.object.cert
signer_of (Aspa a) = Some a.object.cert
signer_of (Checklist o) = Some o.cert
signer_of (TrustAnchorKey o) = Some o.cert
signer_of (Ghostbusters o) = Some o.cert
signer_of (SignedObject o) = Some o.cert
signer_of (OtherCertificate c) = None

-- the signed object that the object is, whatever its content
abbrev pub signed_of : Object → Option ObjectParts
signed_of (Certificate c) = None
signed_of (Crl l) = None
signed_of (Manifest m) = Some m.object
signed_of (Roa r) = Some r.object
signed_of (Aspa a) = Some a.object
signed_of (Checklist o) = Some o
signed_of (TrustAnchorKey o) = Some o
signed_of (Ghostbusters o) = Some o
signed_of (SignedObject o) = Some o
signed_of (OtherCertificate c) = None

-- its subject is its issuer (RFC 5280 3.2)
abbrev pub is_self_issued : CertParts → Bool
is_self_issued c = bytes_eq c.tbs.issuer c.tbs.subject

-- the certificate, where it is
abbrev pub self_issued : CertParts → Option CertParts
self_issued c = if is_self_issued c then Some c else None

-- the self-issued certificate that an object is, as a trust anchor is one, where no other issuer is asked for
abbrev pub anchor_of : Option TbsParts → Object → Option CertParts
anchor_of (Some issuer) x = None
anchor_of None (Certificate c) = self_issued c
anchor_of None (Crl l) = None
anchor_of None (Manifest m) = None
anchor_of None (Roa r) = None
anchor_of None (Aspa a) = None
anchor_of None (Checklist o) = None
anchor_of None (TrustAnchorKey o) = None
anchor_of None (Ghostbusters o) = None
anchor_of None (SignedObject o) = None
anchor_of None (OtherCertificate c) = None

-- the revocation list that the object is
abbrev pub list_of : Object → Option CrlParts
list_of (Certificate c) = None
list_of (Crl l) = Some l
list_of (Manifest m) = None
list_of (Roa r) = None
list_of (Aspa a) = None
list_of (Checklist o) = None
list_of (TrustAnchorKey o) = None
list_of (Ghostbusters o) = None
list_of (SignedObject o) = None
list_of (OtherCertificate c) = None

-- the content of the manifest that the object is
abbrev pub manifest_of : Object → Option ManifestParts
manifest_of (Certificate c) = None
manifest_of (Crl l) = None
manifest_of (Manifest m) = Some m.content
manifest_of (Roa r) = None
manifest_of (Aspa a) = None
manifest_of (Checklist o) = None
manifest_of (TrustAnchorKey o) = None
manifest_of (Ghostbusters o) = None
manifest_of (SignedObject o) = None
manifest_of (OtherCertificate c) = None

-- of a list, from this update to the next (RFC 5280 5.1.2.4, 5.1.2.5)
abbrev pub updates : CrlParts → Period
updates l = record { not_before = l.list.this_update; not_after = l.list.next_update }

-- the period of the certificate, of the list, and of the manifest
abbrev pub signer_period : Object → Option Period
signer_period x = option_map (λ c. c.tbs.validity) (signer_of x)

abbrev pub list_period : Object → Option Period
list_period x = option_map updates (list_of x)

abbrev pub manifest_period : Object → Option Period
manifest_period x = option_map period_of (manifest_of x)

-- ---- signatures

-- this is the signature of the message, by SHA-256, by the RSA key of these bits (RFC 8017 8.2.2)
abbrev pub rsa : Check
rsa bits message value = IsSignatureBy bits (sha256 message) value

-- none is by a key of another kind: the RPKI signs by RSA alone (RFC 7935 2)
abbrev pub ecdsa : Check
ecdsa bits message value = ⊥

-- both, and the digests (FIPS 180-4)
abbrev pub checkers : Checkers
checkers = record { rsa = rsa; ecdsa = ecdsa; sha1 = sha1; sha256 = sha256 }

-- the signer has signed the content (RFC 6488 3), by the key of the certificate in the object
abbrev pub IsSignedRight : ObjectParts → Type 0
IsSignedRight = IsSignedObject checkers

abbrev pub IsSignedWrong : ObjectParts → ValidationError → Type 0
IsSignedWrong = IsUnsignedObject checkers

-- its own key has signed the certificate (RFC 8630 2.3)
abbrev pub IsSelfSigned : CertParts → Type 0
IsSelfSigned c = IsSignedBy checkers c.tbs.key c.signed

-- The one certificate has issued the other (RFC 5280 6.1.3, RFC 6487 7.2), at the first moment of the other's period:
-- which moment it is doesn't count, but a period that ends before it begins holds at none.
abbrev pub IsCertIssued : TbsParts → CertParts → Type 0
IsCertIssued issuer c = IsIssued checkers issuer c.tbs.validity.not_before c

-- the error where it hasn't
abbrev pub IsCertUnissued : TbsParts → CertParts → ValidationError → Type 0
IsCertUnissued issuer c = IsUnissued checkers issuer c.tbs.validity.not_before c

-- the key of the certificate has signed the list, which names its subject as the issuer, and the key (RFC 5280 6.3.3,
-- RFC 6487 5)
pub record IsListIssued (issuer : TbsParts) (l : CrlParts) : Type 0 where
  pub signature : IsSignedBy checkers issuer.key l.signed
  pub name : l.list.issuer ≡ issuer.subject
  pub authority : l.list.extensions.authority ≡ sha1 issuer.key.bits.octets

-- the error where one of them doesn't hold: of the first, in this order
abbrev pub IsListUnissued : TbsParts → CrlParts → ValidationError → Type 0
IsListUnissued issuer l =
    Unless (IsSignedBy checkers issuer.key l.signed) (HasReason bad_text)
    (Unless (l.list.issuer ≡ issuer.subject) (HasReason (codes "issuer name mismatch"))
    (HasReason (codes "authority key identifier mismatch")))

-- the error of a moment before this update, or after the next
abbrev pub IsUpdateError : Period → DateTime → ValidationError → Type 0
IsUpdateError p at =
    Unless (civil_nanos p.not_before ≤ℤ civil_nanos at) (HasReason (codes "issued later")) (HasReason (codes "stale"))

-- ---- what holds of some, and of two that may be there

-- P of what is there
abbrev pub WhereSome : {A : Type 0} → (A → Type 0) → Option A → Type 0
WhereSome P None = Unit {0}
WhereSome P (Some a) = P a

-- something is there, and P of it
abbrev pub HasSome : {A : Type 0} → (A → Type 0) → Option A → Type 0
HasSome P None = ⊥
HasSome P (Some a) = P a

-- P of both, where both are there
abbrev pub WhereBoth : {A B : Type 0} → (A → B → Type 0) → Option A → Option B → Type 0
WhereBoth P (Some a) (Some b) = P a b
WhereBoth P (Some a) None = Unit {0}
WhereBoth P None b = Unit {0}

-- both are there, and P of them
abbrev pub HasBoth : {A B : Type 0} → (A → B → Type 0) → Option A → Option B → Type 0
HasBoth P (Some a) (Some b) = P a b
HasBoth P (Some a) None = ⊥
HasBoth P None b = ⊥

-- ---- the rules

-- all periods hold at the moment: of the certificate (RFC 6487 7.2), and those between this update and the next, of a
-- list (RFC 5280 6.3.3) and of a manifest (RFC 9286 6.3)
abbrev pub HoldsCertAt : TermParts → Object → Type 0
HoldsCertAt terms x = WhereBoth HoldsAt (signer_period x) terms.moment

abbrev pub HoldsListAt : TermParts → Object → Type 0
HoldsListAt terms x = WhereBoth HoldsAt (list_period x) terms.moment

abbrev pub HoldsManifestAt : TermParts → Object → Type 0
HoldsManifestAt terms x = WhereBoth HoldsAt (manifest_period x) terms.moment

-- a signed object's signer has signed it (RFC 6488 3)
abbrev pub IsSigned : Object → Type 0
IsSigned x = WhereSome IsSignedRight (signed_of x)

-- The content of a signed object is within what its own certificate says of resources: a manifest's inherits all (RFC
-- 9286 5.1), a route origin attestation's lists each prefix (RFC 9582 5), and an attestation of providers' the customer
-- (draft-ietf-sidrops-aspa-profile 4).
abbrev pub KeepsResources : Object → Type 0
KeepsResources (Certificate c) = Unit {0}
KeepsResources (Crl l) = Unit {0}
KeepsResources (Manifest m) = AreInherited m.object.cert.tbs.extensions
KeepsResources (Roa r) = KeepsOwnOriginRules r
KeepsResources (Aspa a) = KeepsOwnAspaRules a
KeepsResources (Checklist o) = Unit {0}
KeepsResources (TrustAnchorKey o) = Unit {0}
KeepsResources (Ghostbusters o) = Unit {0}
KeepsResources (SignedObject o) = Unit {0}
KeepsResources (OtherCertificate c) = Unit {0}

-- without an issuer, a self-issued certificate is signed by its own key
abbrev pub IsAnchored : TermParts → Object → Type 0
IsAnchored terms x = WhereSome IsSelfSigned (anchor_of terms.issuer x)

-- the issuer has issued the certificate, and the list
abbrev pub HasIssuedCert : TermParts → Object → Type 0
HasIssuedCert terms x = WhereBoth IsCertIssued terms.issuer (signer_of x)

abbrev pub HasIssuedList : TermParts → Object → Type 0
HasIssuedList terms x = WhereBoth IsListIssued terms.issuer (list_of x)

-- the list, which is the issuer's, doesn't have the certificate, by its serial number (RFC 6487 7.2, RFC 5280 6.3.3)
abbrev pub IsNotOn : CrlParts → CertParts → Type 0
IsNotOn l c = IsUnrevoked (Some l) c

abbrev pub IsNotRevoked : TermParts → Object → Type 0
IsNotRevoked terms x = WhereBoth IsNotOn terms.revocations (signer_of x)

-- ---- all of them, in this order

-- P, and then Q
abbrev pub Both : Type 0 → Type 0 → Type 0
Both P Q = P × Q

abbrev pub AreUpdatesHeld : TermParts → Object → Type 0
AreUpdatesHeld terms x = Both (HoldsListAt terms x) (HoldsManifestAt terms x)

abbrev pub ArePeriodsHeld : TermParts → Object → Type 0
ArePeriodsHeld terms x = Both (HoldsCertAt terms x) (AreUpdatesHeld terms x)

abbrev pub HoldsAlone : Object → Type 0
HoldsAlone x = Both (IsSigned x) (KeepsResources x)

abbrev pub IsIssuedBy : TermParts → Object → Type 0
IsIssuedBy terms x = Both (HasIssuedCert terms x) (Both (HasIssuedList terms x) (IsNotRevoked terms x))

abbrev pub HasIssuer : TermParts → Object → Type 0
HasIssuer terms x = Both (IsAnchored terms x) (IsIssuedBy terms x)

-- the periods hold at the moment; the object holds by itself; and it has its issuer, which hasn't revoked it
abbrev pub IsVerified : TermParts → Object → Type 0
IsVerified terms x = Both (ArePeriodsHeld terms x) (Both (HoldsAlone x) (HasIssuer terms x))

-- ---- what is wrong first

-- which clause is broken, and the error
abbrev pub Wrong : Type 1
Wrong = Clause → ValidationError → Type 0

-- P doesn't hold, and V says what is wrong; or P holds, and W does
abbrev pub Else : Type 0 → Wrong → Wrong → Wrong
Else P V W clause e = ((P → ⊥) × V clause e) ⊎ (P × W clause e)

-- this error, by this clause
abbrev pub SaysBy : {A B : Type 0} → (A → B → ValidationError → Type 0) → Option A → Option B → Clause → Wrong
SaysBy E a b wanted clause e = (clause ≡ wanted) × HasBoth (λ x y. E x y e) a b

abbrev pub SaysOf : {A : Type 0} → (A → ValidationError → Type 0) → Option A → Clause → Wrong
SaysOf E a wanted clause e = (clause ≡ wanted) × HasSome (λ x. E x e) a

-- the clause and the error of resources that the content isn't within
abbrev pub BreaksResources : Object → Wrong
BreaksResources (Certificate c) clause e = ⊥
BreaksResources (Crl l) clause e = ⊥
BreaksResources (Manifest m) clause e =
    (clause ≡ C.Inherited) × HasReason not_inherited_text e
BreaksResources (Roa r) clause e = (clause ≡ C.Origins) × IsOwnOriginError r e
BreaksResources (Aspa a) clause e = (clause ≡ C.Customer) × IsOwnAspaError a e
BreaksResources (Checklist o) clause e = ⊥
BreaksResources (TrustAnchorKey o) clause e = ⊥
BreaksResources (Ghostbusters o) clause e = ⊥
BreaksResources (SignedObject o) clause e = ⊥
BreaksResources (OtherCertificate c) clause e = ⊥

abbrev pub BreaksUpdates : TermParts → Object → Wrong
BreaksUpdates terms x =
    Else (HoldsListAt terms x) (SaysBy IsUpdateError (list_period x) terms.moment C.Updates)
    (SaysBy IsUpdateError (manifest_period x) terms.moment C.Manifest)

abbrev pub BreaksPeriods : TermParts → Object → Wrong
BreaksPeriods terms x =
    Else (HoldsCertAt terms x) (SaysBy IsPeriodError (signer_period x) terms.moment C.Period)
    (BreaksUpdates terms x)

abbrev pub BreaksAlone : Object → Wrong
BreaksAlone x = Else (IsSigned x) (SaysOf IsSignedWrong (signed_of x) C.Object) (BreaksResources x)

-- the error of a certificate that is on a list
abbrev pub IsRevokedError : CrlParts → CertParts → ValidationError → Type 0
IsRevokedError l c = HasReason revoked_text

abbrev pub BreaksListed : TermParts → Object → Wrong
BreaksListed terms x =
    Else (HasIssuedList terms x) (SaysBy IsListUnissued terms.issuer (list_of x) C.List)
    (SaysBy IsRevokedError terms.revocations (signer_of x) C.Revoked)

abbrev pub BreaksIssued : TermParts → Object → Wrong
BreaksIssued terms x =
    Else (HasIssuedCert terms x) (SaysBy IsCertUnissued terms.issuer (signer_of x) C.Certificate) (BreaksListed terms x)

abbrev pub BreaksIssuer : TermParts → Object → Wrong
BreaksIssuer terms x =
    Else (IsAnchored terms x) (SaysOf (λ c. HasReason bad_text) (anchor_of terms.issuer x) C.Anchor)
    (BreaksIssued terms x)

-- the clause that is broken first, in this order, and its error
abbrev pub IsFirstWrong : TermParts → Object → Wrong
IsFirstWrong terms x =
    Else (ArePeriodsHeld terms x) (BreaksPeriods terms x) (Else (HoldsAlone x) (BreaksAlone x) (BreaksIssuer terms x))

-- not all of it holds, and this is what is broken first
pub record IsUnverified (terms : TermParts) (x : Object) (clause : Clause) (e : ValidationError) : Type 0 where
  pub not_all : IsVerified terms x → ⊥
  pub first : IsFirstWrong terms x clause e

-- a fault of that kind, or allocation failed
abbrev pub IsUnverifiedBy : TermParts → Object → Fault → Type 0
IsUnverifiedBy terms x fault =
    (fault ≡ OutOfMemory)
    ⊎ ((clause : Clause) × (e : ValidationError) × (fault ≡ Unverified clause e) × IsUnverified terms x clause e)
