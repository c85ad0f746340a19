-- Whether a signed object is valid: what is asked, in sequence.
use Rattle.std.proofs.Common.{◌≡◌, Option, Result, Ok, Err, inl, inr}
use Rattle.jiff.specs.Types.{DateTime}
use Rattle.rpki.specs.declared.repository.error.ValidationError.{ValidationError}
use Rattle.rpki.specs.Provider.{Checkers}
use Rattle.rpki_valid.specs.declared.resource.set.ResourceSet.{ResourceSet}
use Rattle.rpki_cert.specs.declared.profile.Profile.TheVariants.{Ee}
use Rattle.rpki_cert.specs.RuleError.{ChecksBy}
use Rattle.rpki_valid.specs.Valid.{HasReason, HasSubject, IsOtherSubject}
use Rattle.rpki_valid.specs.Verified.{Verified, ChecksLink, IsRefusedWith}
use Rattle.rpki_cert.proofs.KnownLaws.{unless-from, unless-weaker}
use Rattle.rpki_crl.specs.Crl.{CrlParts}
use Rattle.rpki_objects.specs.SignedObject.{ObjectParts}
use Rattle.rpki_valid.specs.ObjectVerified.{SignsAttributes, IsSignedObject, IsUnsignedObject, IsValidObject}
use Rattle.rpki_valid.specs.ObjectVerified.{IsInvalidObject, ChecksObject}
use Rattle.rpki_valid.specs.ErrorTexts.{content_type_text, digest_text, signer_text, unsigned_object_text}

module _ (by : Checkers) (x : ObjectParts) where
  abbrev pub Unsigned : ValidationError → Type 0
  Unsigned e = (IsSignedObject by x → ⊥) × IsUnsignedObject by x e

  abbrev pub SameType : Type 0
  SameType = x.signer.attributes.values.content_type ≡ x.content.content_type

  abbrev pub SameDigest : Type 0
  SameDigest = x.signer.attributes.values.message_digest ≡ by.sha256 x.content.content

  pub other-type : (e : ValidationError) → (SameType → ⊥) × HasReason content_type_text e → Unsigned e
  other-type e h = (λ k. h.0 k.type, inl h)

  module _ (type : SameType) where
    pub other-digest : (e : ValidationError) → (SameDigest → ⊥) × HasReason digest_text e
        → Unsigned e
    other-digest e h = (λ k. h.0 k.digest, inr (type, inl h))

    module _ (digest : SameDigest) where
      pub other-key : (e : ValidationError)
          → (HasSubject x.signer.identifier x.cert.tbs → ⊥) × IsOtherSubject signer_text x.cert.tbs e → Unsigned e
      other-key e h = (λ k. h.0 k.identifier, inr (type, inr (digest, inl h)))

      pub asked-last : (r : Result (Unit {0}) ValidationError) → HasSubject x.signer.identifier x.cert.tbs
          → ChecksBy (SignsAttributes by x.cert.tbs.key x.signer) (HasReason unsigned_object_text) r
          → ChecksBy (IsSignedObject by x) (IsUnsignedObject by x) r
      asked-last (Ok u) identifier h =
          record { type = type; digest = digest; identifier = identifier; signature = h }
      asked-last (Err e) identifier h =
          (λ k. h.0 k.signature, inr (type, inr (digest, inr (identifier, h.1))))

module _ (list : Option CrlParts) (v : Verified) (at : DateTime) (x : ObjectParts) where
  -- the signer has not signed it
  pub not-signed : (e : ValidationError)
      → (IsSignedObject v.by x → ⊥) × IsUnsignedObject v.by x e
      → IsRefusedWith (IsValidObject list v at x) (IsInvalidObject list v at x) e
  not-signed e h = (unless-from e (λ r k. h.0 k.signed), inl h)

  -- it has: so the certificate decides
  pub cert-decides : (r : Result ResourceSet ValidationError) → IsSignedObject v.by x
      → ChecksLink Ee list v at x.cert r → ChecksObject list v at x r
  cert-decides (Ok r) signed h = record { signed = signed; cert = h }
  cert-decides (Err e) signed h = (unless-weaker e (λ none r k. none r k.cert) h.0, inr (signed, h.1))
