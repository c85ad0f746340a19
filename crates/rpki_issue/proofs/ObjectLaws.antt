-- A signed object that is written is read as the object that was to be signed.
use Rattle.std.proofs.Common.{◌≡◌, ℕ, List, refl, sym, subst, ap, ◌∙◌}
use Rattle.rpki_der.specs.declared.error.DecodeError.{DecodeError}
use Rattle.rpki_der.specs.declared.error.DecodeError.TheVariants.{OutOfMemory}
use Rattle.rpki_der.specs.Prelude.{UnlessMemory, SpellsNothing}
use Rattle.rpki_der.proofs.ReadingLaws.{unless-memory}
use Rattle.rpki_cert.specs.Cert.{CertParts, SpellsCert}
use Rattle.rpki.specs.Provider.{Checkers}
use Rattle.rpki.specs.PublicKey.{KeyParts}
use Rattle.rpki_attributes.specs.SignedAttributes.{AttributeValues}
use Rattle.rpki_objects.specs.SignedObject.{signed_object, object_fields_of}
use Rattle.rpki_objects.specs.EncodedObject.{BuiltObject, object_octets, CanWriteObject, normal_object}
use Rattle.rpki_objects.specs.EncodedObject.{IsObjectReadBack}
use Rattle.rpki_issue.specs.declared.error.IssueError.{IssueError}
use Rattle.rpki_issue.specs.declared.error.IssueError.TheVariants.{Uri, Period, Doubled, Resources, TooLong}
use Rattle.rpki_issue.specs.declared.error.IssueError.TheVariants.{Rule, ContentType, Certificate, BadSignature}
use Rattle.rpki_issue.specs.declared.error.IssueError.TheVariants.{OutOfMemory as NoMemory}
use Rattle.rpki_issue.specs.Signing.{IsSignatureBy}
use Rattle.rpki_issue.specs.SignedObjects.{ObjectToSign, AreTimed, built, IsOnlyCert, IsIssuedObject, IsObjectRefused}
use Rattle.rpki_issue.specs.SignedObjects.{IsBuildRefused}

pub only-cert : (s o : List ℕ) (c : CertParts) → s ≡ o
    → SpellsCert c s × ((w : CertParts) → SpellsCert w s → w ≡ c) → IsOnlyCert o c
only-cert s o c same h = record {
  spelled = subst (λ (w : List ℕ). SpellsCert c w) same h.0;
  only = λ x there. h.1 x (subst (λ (w : List ℕ). SpellsCert x w) (sym same) there);
}

pub no-cert : (s o : List ℕ) (e : DecodeError) → s ≡ o → (e ≡ OutOfMemory → ⊥)
    → UnlessMemory e (SpellsNothing SpellsCert s) → (x : CertParts) → SpellsCert x o → ⊥
no-cert s o e same other h x there =
    unless-memory e other h x (subst (λ (w : List ℕ). SpellsCert x w) (sym same) there)

-- ---- a signature, of equals

pub moved : (by : Checkers) (k key : KeyParts) (m message v value : List ℕ) → k ≡ key → m ≡ message → v ≡ value
    → IsSignatureBy by k m v → IsSignatureBy by key message value
moved by k key m message v value p q r h =
    subst (λ (w : List ℕ). IsSignatureBy by key message w) r
    (subst (λ (w : List ℕ). IsSignatureBy by key w v) q
    (subst (λ (x : KeyParts). IsSignatureBy by x m v) p h))

-- ---- the object

module _ (by : Checkers) (made : ObjectToSign) (certificate value : List ℕ)
    (cert : CertParts) (one : IsOnlyCert certificate cert) where
  pub built-same : (a : AttributeValues) (content signer signature : List ℕ) → a ≡ made.attributes
      → content ≡ made.content → signer ≡ by.sha1 cert.tbs.key.bits.octets → signature ≡ value
      → record {
        attributes = a;
        content = content;
        certificate = certificate;
        signer = signer;
        signature = signature;
      } ≡ built by made certificate cert value
  built-same a content signer signature p q r s = rw (p, q, r, s) refl

  pub signature-refused : (IsSignatureBy by cert.tbs.key made.message value → ⊥) → (x : CertParts)
      → SpellsCert x certificate → IsSignatureBy by x.tbs.key made.message value → ⊥
  signature-refused other x there h =
      other (subst (λ (t : CertParts). IsSignatureBy by t.tbs.key made.message value) (one.only x there) h)

  module _ (b : BuiltObject) (same : b ≡ built by made certificate cert value) where
    pub object-issued : (whole : List ℕ) → IsSignatureBy by cert.tbs.key made.message value
        → whole ≡ object_octets b → IsObjectReadBack b → AreTimed made.attributes
        → IsIssuedObject by made certificate value whole
    object-issued whole verified written back timed =
        let x = built by made certificate cert value in
        let is : whole ≡ object_octets x = written ∙ ap object_octets same in
        let reads : IsObjectReadBack x = subst (λ (o : BuiltObject). IsObjectReadBack o) same back in
        record {
          cert = cert;
          spelled = one.spelled;
          verified = verified;
          written = is;
          read_back = λ strict. subst
              (λ (o : List ℕ). (signed_object strict).spells (object_fields_of (normal_object cert x)) o) (sym is)
              (reads strict cert one.spelled (timed strict));
        }

    pub build-refused : (w : IssueError) → IsBuildRefused b w
        → IsObjectRefused by made certificate value w
    build-refused Uri h = h
    build-refused Period h = h
    build-refused Doubled h = h
    build-refused Resources h = h
    build-refused TooLong h = λ x there can.
        h (subst (λ (o : BuiltObject). CanWriteObject o) (sym same)
        (subst (λ (t : CertParts). CanWriteObject (built by made certificate t value)) (one.only x there) can))
    build-refused (Rule r) h = h
    build-refused ContentType h = h
    build-refused Certificate h = absurd h
    build-refused BadSignature h = absurd h
    build-refused NoMemory h = h
