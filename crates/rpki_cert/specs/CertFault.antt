-- Which error certificates have that are rejected (RFC 5280 4.1): that of the leftmost part that isn't there. First the
-- octets are read as signed data, and then what is signed.
use Rattle.std.specs.Prelude.{◌≡◌, ◌≢◌, ◌⊎◌, ℕ, true, List}
use Rattle.rpki_der.specs.declared.error.DecodeError.{DecodeError}
use Rattle.rpki_der.specs.declared.error.DecodeError.TheVariants.{Trailing, OutOfMemory}
use Rattle.rpki_der.specs.Prelude.{Finds, sequence}
use Rattle.rpki_cert.specs.declared.read.cert_part.CertPart.{CertPart}
use Rattle.rpki_cert.specs.declared.read.cert_part.CertPart.TheVariants.{Certificate, Tbs}
use Rattle.rpki_cert.specs.declared.read.cert_error.CertError.{CertError}
use Rattle.rpki_cert.specs.Cert.{SpellsTbs, SpellsCert}
use Rattle.rpki_cert.specs.CertError.{cert_error}
use Rattle.rpki_cert.specs.View.{FirstWrong, AreFieldsWrong, AreContentsWrong}
use Rattle.rpki_x509.specs.Frame.{frame}

-- no certificate begins the octets: the SEQUENCE around all; then its contents
abbrev pub IsFrontError : List ℕ → CertError → Type 0
IsFrontError = FirstWrong (frame sequence) Certificate (λ contents rest. AreContentsWrong true contents)

-- the same without the part; or a certificate begins them, and allocation failed
abbrev pub IsCertFault : List ℕ → DecodeError → Type 0
IsCertFault s e =
    ((part : CertPart) × IsFrontError s (cert_error part e)) ⊎ ((e ≡ OutOfMemory) × Finds SpellsCert s)

-- no TBSCertificate begins the octets: the SEQUENCE around all; then its fields
abbrev pub IsFrontTbsError : List ℕ → CertError → Type 0
IsFrontTbsError = FirstWrong (frame sequence) Tbs (λ fields rest. AreFieldsWrong true fields)

abbrev pub IsTbsFault : List ℕ → DecodeError → Type 0
IsTbsFault s e =
    ((part : CertPart) × IsFrontTbsError s (cert_error part e)) ⊎ ((e ≡ OutOfMemory) × Finds SpellsTbs s)

-- the part is told but where a certificate is there and isn't kept
abbrev pub UnlessUnkept : (List ℕ → CertError → Type 0) → List ℕ → CertError → Type 0
UnlessUnkept F s q = q.error ≢ OutOfMemory → F s q

-- the part of octets that are no certificate: the leftmost that is wrong; or octets follow a certificate
abbrev pub IsDecodedPart : List ℕ → CertError → Type 0
IsDecodedPart s q =
    UnlessUnkept IsFrontError s q ⊎ (Finds SpellsCert s × (q ≡ cert_error Certificate Trailing))
