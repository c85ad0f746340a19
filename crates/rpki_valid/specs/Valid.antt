-- Certificates that are valid at a moment (RFC 5280 6.1.3, RFC 6487 7.2), but for their resources.
use Rattle.std.specs.Prelude.{◌≡◌, ◌⊎◌, ◌<ℤ◌, ℕ, false, List, Some, None, IsTrue, Result}
use Rattle.jiff.specs.Types.{DateTime}
use Rattle.jiff.specs.Words.{civil_nanos}
use Rattle.rpki_der.specs.ErrorText.{text_of}
use Rattle.rpki_time.specs.Validity.{Period, HoldsAt}
use Rattle.rpki.specs.declared.repository.error.ValidationError.{ValidationError}
use Rattle.rpki.specs.declared.repository.error.ValidationError.TheVariants.{Decoding, Inspection, Verification}
use Rattle.rpki.specs.ErrorContent.{verification_content}
use Rattle.rpki.specs.declared.crypto.keys.PublicKeyFormat.TheVariants.{Rsa}
use Rattle.rpki.specs.Provider.{Checkers, Verifies}
use Rattle.rpki.specs.PublicKey.{KeyParts}
use Rattle.rpki.specs.KeyIdentifier.{SpellsKeyIdentifier}
use Rattle.rpki.specs.Signature.{SignatureParts}
use Rattle.rpki.specs.SignedData.{SignedParts, parts_of}
use Rattle.rpki_cert.specs.Cert.{TbsParts, CertParts, find}
use Rattle.rpki_cert.specs.Known.{subject_key_identifier, HasExtension, are_understood}
use Rattle.rpki_x509.specs.Authority.{authority_key_identifier}
use Rattle.rpki_cert.specs.Known.{IsOtherwise}
use Rattle.rpki_cert.specs.RuleError.{ChecksBy}
use Rattle.rpki_x509.specs.Authority.{SpellsAuthority}
use Rattle.rpki_x509.specs.Authority.{WholeFault, authority_content}
use Rattle.rpki_cert.specs.ExtensionContent.{subject_content}
use Rattle.rpki_valid.specs.ErrorTexts.{unsigned_text, early_text, late_text, issuer_text, critical_text}
use Rattle.rpki_valid.specs.ErrorTexts.{subject_text, authority_text}

-- ---- the errors of verification

-- the error of a verification, of this text
abbrev pub HasReason : List ℕ → ValidationError → Type 0
HasReason text (Decoding e) = ⊥
HasReason text (Inspection e) = ⊥
HasReason text (Verification e) = text_of (verification_content e) ≡ text

-- the error of a moment outside the period of a certificate: that the period begins later, or that it ended before
abbrev pub IsPeriodError : Period → DateTime → ValidationError → Type 0
IsPeriodError p at e =
    ((civil_nanos at <ℤ civil_nanos p.not_before) × HasReason early_text e)
    ⊎ ((civil_nanos at <ℤ civil_nanos p.not_before → ⊥) × HasReason late_text e)

-- P doesn't hold, and the error is one of E; or it holds, and the error is one of F
abbrev pub Unless : Type 0 → (ValidationError → Type 0) → (ValidationError → Type 0) → ValidationError → Type 0
Unless P E F e = ((P → ⊥) × E e) ⊎ (P × F e)

-- ---- a certificate and its issuer's name and key

-- the key, of RSA, has signed the signed octets
abbrev pub IsSignedBy : {A : Type 0} → Checkers → KeyParts → SignedParts A → Type 0
IsSignedBy by key signed = Verifies by Rsa key.format key.bits.octets signed.signed signed.value

-- the same of octets and their signature
abbrev pub HasSigned : {A : Type 0} → Checkers → KeyParts → List ℕ → SignatureParts A → Type 0
HasSigned by key octets signature = IsSignedBy by key (parts_of octets signature.algorithm signature.value)

-- The key has signed the signed octets, the period holds, the issuer has this name, no unknown extension is critical
-- (RFC 5280 4.2), and the subject key identifier is that of the subject's key (RFC 6487 4.8.2).
pub record IsSigned (by : Checkers) (name : List ℕ) (key : KeyParts) (at : DateTime)
    (x : CertParts) : Type 0 where
  pub signature : IsSignedBy by key x.signed
  pub period : HoldsAt x.tbs.validity at
  pub issuer : x.tbs.issuer ≡ name
  pub understood : IsTrue (are_understood x.tbs.extensions)
  pub subject : HasExtension subject_key_identifier false SpellsKeyIdentifier x.tbs.extensions
      (Some (by.sha1 x.tbs.key.bits.octets))

-- the subject key identifier is this one; and the error of one that is another, which has this text
abbrev pub HasSubject : List ℕ → TbsParts → Type 0
HasSubject identifier t =
    HasExtension subject_key_identifier false SpellsKeyIdentifier t.extensions (Some identifier)

abbrev pub IsOtherSubject : List ℕ → TbsParts → ValidationError → Type 0
IsOtherSubject text t =
    IsOtherwise false SpellsKeyIdentifier (WholeFault subject_content) (find subject_key_identifier t.extensions)
    (HasReason text)

-- the error where one of them doesn't hold: of the first, in this order
abbrev pub IsUnsigned : Checkers → List ℕ → KeyParts → DateTime → CertParts → ValidationError → Type 0
IsUnsigned by name key at x =
    Unless (IsSignedBy by key x.signed) (HasReason unsigned_text)
    (Unless (HoldsAt x.tbs.validity at) (IsPeriodError x.tbs.validity at)
    (Unless (x.tbs.issuer ≡ name) (HasReason issuer_text)
    (Unless (IsTrue (are_understood x.tbs.extensions)) (HasReason critical_text)
    (IsOtherSubject subject_text x.tbs))))

-- the authority key identifier is there, and is this one (RFC 6487 4.8.3)
abbrev pub HasAuthority : List ℕ → TbsParts → Type 0
HasAuthority identifier t =
    HasExtension authority_key_identifier false SpellsAuthority t.extensions (Some identifier)

-- the certificate of this name and key has signed the other
pub record IsIssued (by : Checkers) (issuer : TbsParts) (at : DateTime) (x : CertParts) :
    Type 0 where
  pub signed : IsSigned by issuer.subject issuer.key at x
  pub authority : HasAuthority (by.sha1 issuer.key.bits.octets) x.tbs

-- the error of an authority key identifier that is another
abbrev pub IsOtherAuthority : TbsParts → ValidationError → Type 0
IsOtherAuthority t =
    IsOtherwise false SpellsAuthority (WholeFault authority_content) (find authority_key_identifier t.extensions)
    (HasReason authority_text)

-- a check of what IsSigned says
abbrev pub ChecksSigned : Checkers → List ℕ → KeyParts → DateTime → CertParts → Result (Unit {0}) ValidationError
    → Type 0
ChecksSigned by name key at x = ChecksBy (IsSigned by name key at x) (IsUnsigned by name key at x)

abbrev pub IsUnissued : Checkers → TbsParts → DateTime → CertParts → ValidationError → Type 0
IsUnissued by issuer at x =
    Unless (IsSigned by issuer.subject issuer.key at x)
    (IsUnsigned by issuer.subject issuer.key at x) (IsOtherAuthority x.tbs)

-- a check of what IsIssued says
abbrev pub ChecksIssued : Checkers → TbsParts → DateTime → CertParts → Result (Unit {0}) ValidationError → Type 0
ChecksIssued by issuer at x = ChecksBy (IsIssued by issuer at x) (IsUnissued by issuer at x)

-- a trust anchor: its own key has signed it, and the authority key identifier is left out, or is that of its key
pub record IsAnchor (by : Checkers) (at : DateTime) (x : CertParts) : Type 0 where
  pub signed : IsSigned by x.tbs.subject x.tbs.key at x
  pub authority : (find authority_key_identifier x.tbs.extensions ≡ None)
      ⊎ HasAuthority (by.sha1 x.tbs.key.bits.octets) x.tbs

abbrev pub IsNoAnchor : Checkers → DateTime → CertParts → ValidationError → Type 0
IsNoAnchor by at x =
    Unless (IsSigned by x.tbs.subject x.tbs.key at x)
    (IsUnsigned by x.tbs.subject x.tbs.key at x) (IsOtherAuthority x.tbs)

-- a check of what IsAnchor says
abbrev pub ChecksAnchor : Checkers → DateTime → CertParts → Result (Unit {0}) ValidationError → Type 0
ChecksAnchor by at x = ChecksBy (IsAnchor by at x) (IsNoAnchor by at x)
