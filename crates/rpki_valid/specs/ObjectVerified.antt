-- Signed objects that are valid at a moment (RFC 6488 3).
use Rattle.std.specs.Prelude.{◌≡◌, ℕ, List, Option, Some, Result}
use Rattle.jiff.specs.Types.{DateTime}
use Rattle.rpki.specs.declared.repository.error.ValidationError.{ValidationError}
use Rattle.rpki.specs.declared.crypto.keys.PublicKeyFormat.TheVariants.{Rsa}
use Rattle.rpki.specs.Checkers.{Models}
use Rattle.rpki.specs.Provider.{Checkers, Verifies}
use Rattle.rpki.specs.PublicKey.{KeyParts}
use Rattle.rpki_valid.specs.declared.resource.set.ResourceSet.{ResourceSet}
use Rattle.rpki_cert.specs.declared.profile.Profile.TheVariants.{Ee}
use Rattle.rpki_cert.specs.RuleError.{ChecksBy}
use Rattle.rpki_valid.specs.Valid.{HasReason, HasSubject, IsOtherSubject, Unless}
use Rattle.rpki_valid.specs.CrlIssued.{InForce}
use Rattle.rpki_valid.specs.Verified.{verified_by, Verified, IsVerifiedBy, IsUnverified, ChecksWith}
use Rattle.rpki_crl.specs.Crl.{CrlParts}
use Rattle.rpki_objects.specs.SignedObject.{ObjectParts, SignerParts}
use Rattle.rpki_valid.specs.ErrorTexts.{content_type_text, digest_text, signer_text, unsigned_object_text}

-- the key, of RSA, has signed the attributes
abbrev pub SignsAttributes : Checkers → KeyParts → SignerParts → Type 0
SignsAttributes by key x = Verifies by Rsa key.format key.bits.octets x.attributes.message x.signature.value

-- the content has the type that is signed
abbrev pub HasSignedType : ObjectParts → Type 0
HasSignedType x = x.signer.attributes.values.content_type ≡ x.content.content_type

-- the content has the digest that is signed
abbrev pub HasSignedDigest : (List ℕ → List ℕ) → ObjectParts → Type 0
HasSignedDigest sha256 x = x.signer.attributes.values.message_digest ≡ sha256 x.content.content

-- the key of the certificate has signed the attributes
abbrev pub IsSignedByKey : Checkers → ObjectParts → Type 0
IsSignedByKey by x = SignsAttributes by x.cert.tbs.key x.signer

-- The type of the content and its digest are those that are signed (RFC 6488 3, RFC 5652 11.1, 11.2); the signer's
-- identifier is that of the key of the certificate; and that key has signed them.
pub record IsSignedObject (by : Checkers) (x : ObjectParts) : Type 0 where
  pub type : HasSignedType x
  pub digest : HasSignedDigest by.sha256 x
  pub identifier : HasSubject x.signer.identifier x.cert.tbs
  pub signature : IsSignedByKey by x

-- the error where one of them doesn't hold: of the first, in this order
abbrev pub IsUnsignedObject : Checkers → ObjectParts → ValidationError → Type 0
IsUnsignedObject by x =
    Unless (HasSignedType x) (HasReason content_type_text)
    (Unless (HasSignedDigest by.sha256 x) (HasReason digest_text)
    (Unless (HasSubject x.signer.identifier x.cert.tbs) (IsOtherSubject signer_text x.cert.tbs)
    (HasReason unsigned_object_text)))

-- a check of both
abbrev pub ChecksSigned : Checkers → ObjectParts → Result (Unit {0}) ValidationError → Type 0
ChecksSigned by x = ChecksBy (IsSignedObject by x) (IsUnsignedObject by x)

-- the object is signed so, and its certificate is of an end entity that the verified authority has issued, valid at the
-- moment, and not on the list, where there is one, with these resources
pub record IsValidObject (list : Option CrlParts) (issuer : Verified) (at : DateTime)
    (x : ObjectParts) (held : ResourceSet) : Type 0 where
  pub signed : IsSignedObject issuer.by x
  pub cert : IsVerifiedBy Ee list issuer at x.cert held

-- the error where it isn't: that of the first that doesn't hold
abbrev pub IsInvalidObject : Option CrlParts → Verified → DateTime → ObjectParts → ValidationError
    → Type 0
IsInvalidObject list issuer at x =
    Unless (IsSignedObject issuer.by x)
    (IsUnsignedObject issuer.by x)
    (IsUnverified Ee list issuer at x.cert)

-- a check that returns the resources of the object
abbrev pub ChecksObject : Option CrlParts → Verified → DateTime → ObjectParts
    → Result ResourceSet ValidationError → Type 0
ChecksObject list issuer at x = ChecksWith (IsValidObject list issuer at x) (IsInvalidObject list issuer at x)

-- the same by a list that counts, and at its moment
abbrev pub ChecksListedObject : {X : Type 0} → Models X → InForce X → ObjectParts → Result ResourceSet ValidationError
    → Type 0
ChecksListedObject models c x = ChecksObject (Some c.list) (verified_by models c.issuer) c.at x
