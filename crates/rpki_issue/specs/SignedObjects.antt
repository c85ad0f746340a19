-- Signed objects that are to be signed, and that are signed (RFC 5652, RFC 6488).
use Rattle.std.specs.Prelude.{◌≡◌, ℕ, Bool, List, None, Some}
use Rattle.jiff.specs.Types.{DateTime}
use Rattle.rpki.specs.Provider.{Checkers}
use Rattle.rpki_attributes.specs.SignedAttributes.{AttributeValues}
use Rattle.rpki_attributes.specs.EncodedAttributes.{message_octets, CanWriteType, CanWriteAttributes, IsTimed}
use Rattle.rpki_cert.specs.Cert.{CertParts, SpellsCert}
use Rattle.rpki_objects.specs.SignedObject.{signed_object, object_fields_of}
use Rattle.rpki_objects.specs.EncodedObject.{BuiltObject, object_octets, CanWriteObject, normal_object}
use Rattle.rpki_issue.specs.declared.error.IssueError.{IssueError}
use Rattle.rpki_issue.specs.declared.error.IssueError.TheVariants.{Uri, Period, Doubled, Resources, TooLong}
use Rattle.rpki_issue.specs.declared.error.IssueError.TheVariants.{Rule, ContentType, Certificate, BadSignature}
use Rattle.rpki_issue.specs.declared.error.IssueError.TheVariants.{OutOfMemory}
use Rattle.rpki_issue.specs.Signing.{IsSignatureBy}

-- what the attributes say, the content, and what is to be signed
pub record ObjectToSign : Type 0 where
  pub attributes : AttributeValues
  pub content : List ℕ
  pub message : List ℕ

-- the attributes of a content of this type that is signed at this moment (RFC 9589 4): its digest, and no binary time
abbrev pub said_of : (List ℕ → List ℕ) → List ℕ → List ℕ → DateTime → AttributeValues
said_of sha256 id content moment = record {
  content_type = id;
  message_digest = sha256 content;
  signing_time = Some moment;
  binary_signing_time = None;
}

-- times as RFC 9589 4 has them, whether these are asked for or not
abbrev pub AreTimed : AttributeValues → Type 0
AreTimed v = (strict : Bool) → IsTimed strict v

-- the message of these attributes
pub record IsMessageOf (v : AttributeValues) (message : List ℕ) : Type 0 where
  pub written : message ≡ message_octets v
  pub can : CanWriteAttributes v

pub record IsObjectToSign (v : AttributeValues) (content : List ℕ) (made : ObjectToSign) : Type 0 where
  pub attributes : made.attributes ≡ v
  pub same : made.content ≡ content
  pub message : made.message ≡ message_octets v

-- the type is no object identifier
abbrev pub IsTypeRefused : List ℕ → IssueError → Type 0
IsTypeRefused id Uri = ⊥
IsTypeRefused id Period = ⊥
IsTypeRefused id Doubled = ⊥
IsTypeRefused id Resources = ⊥
IsTypeRefused id TooLong = ⊥
IsTypeRefused id (Rule r) = ⊥
IsTypeRefused id ContentType = CanWriteType id → ⊥
IsTypeRefused id Certificate = ⊥
IsTypeRefused id BadSignature = ⊥
IsTypeRefused id OutOfMemory = Unit {0}

-- the object, by the key of this certificate
abbrev pub built : Checkers → ObjectToSign → List ℕ → CertParts → List ℕ → BuiltObject
built by made certificate cert value = record {
  attributes = made.attributes;
  content = made.content;
  certificate = certificate;
  signer = by.sha1 cert.tbs.key.bits.octets;
  signature = value;
}

-- The certificate is one, by whose key the signature is; the object is written with both, and read as this at each
-- strictness.
pub record IsIssuedObject (by : Checkers) (made : ObjectToSign) (certificate value whole : List ℕ) : Type 0 where
  pub cert : CertParts
  pub spelled : SpellsCert cert certificate
  pub verified : IsSignatureBy by cert.tbs.key made.message value
  pub written : whole ≡ object_octets (built by made certificate cert value)
  pub read_back : (strict : Bool)
      → (signed_object strict).spells (object_fields_of (normal_object cert (built by made certificate cert value)))
      whole

-- they aren't: the certificate is none, the signature is not by its key, or the object can't be written
abbrev pub IsObjectRefused : Checkers → ObjectToSign → List ℕ → List ℕ → IssueError → Type 0
IsObjectRefused by made certificate value Uri = ⊥
IsObjectRefused by made certificate value Period = ⊥
IsObjectRefused by made certificate value Doubled = ⊥
IsObjectRefused by made certificate value Resources = ⊥
IsObjectRefused by made certificate value TooLong =
    (x : CertParts) → SpellsCert x certificate → CanWriteObject (built by made certificate x value) → ⊥
IsObjectRefused by made certificate value (Rule r) = ⊥
IsObjectRefused by made certificate value ContentType = ⊥
IsObjectRefused by made certificate value Certificate = (x : CertParts) → SpellsCert x certificate → ⊥
IsObjectRefused by made certificate value BadSignature =
    (x : CertParts) → SpellsCert x certificate → IsSignatureBy by x.tbs.key made.message value → ⊥
IsObjectRefused by made certificate value OutOfMemory = Unit {0}

-- octets are no certificate
abbrev pub IsCertRefused : List ℕ → IssueError → Type 0
IsCertRefused octets Uri = ⊥
IsCertRefused octets Period = ⊥
IsCertRefused octets Doubled = ⊥
IsCertRefused octets Resources = ⊥
IsCertRefused octets TooLong = ⊥
IsCertRefused octets (Rule r) = ⊥
IsCertRefused octets ContentType = ⊥
IsCertRefused octets Certificate = (x : CertParts) → SpellsCert x octets → ⊥
IsCertRefused octets BadSignature = ⊥
IsCertRefused octets OutOfMemory = Unit {0}

-- they are this one
pub record IsOnlyCert (octets : List ℕ) (cert : CertParts) : Type 0 where
  pub spelled : SpellsCert cert octets
  pub only : (x : CertParts) → SpellsCert x octets → x ≡ cert

-- no such object can be written
abbrev pub IsBuildRefused : BuiltObject → IssueError → Type 0
IsBuildRefused x Uri = ⊥
IsBuildRefused x Period = ⊥
IsBuildRefused x Doubled = ⊥
IsBuildRefused x Resources = ⊥
IsBuildRefused x TooLong = CanWriteObject x → ⊥
IsBuildRefused x (Rule r) = ⊥
IsBuildRefused x ContentType = ⊥
IsBuildRefused x Certificate = ⊥
IsBuildRefused x BadSignature = ⊥
IsBuildRefused x OutOfMemory = Unit {0}
