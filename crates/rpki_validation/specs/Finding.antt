-- What a step of validation finds, or why it finds nothing.
use Rattle.std.specs.Prelude.{◌≡◌, Result, MatchResult}
use Rattle.rpki_der.specs.declared.error.DecodeError.{DecodeError}
use Rattle.rpki_der.specs.declared.error.DecodeError.TheVariants.{Truncated, BadTag, BadLength, Unexpected, Content}
use Rattle.rpki_der.specs.declared.error.DecodeError.TheVariants.{Trailing}
use Rattle.rpki_der.specs.declared.error.DecodeError.TheVariants as der
use Rattle.rpki.specs.declared.repository.error.ValidationError.{ValidationError}
use Rattle.rpki.specs.declared.repository.error.ValidationError.TheVariants.{Decoding, Inspection, Verification}
use Rattle.rpki_cert.specs.declared.read.cert_error.CertError.{CertError}
use Rattle.rpki_validation.specs.declared.reason.Reason.{Reason}
use Rattle.rpki_validation.specs.declared.reason.Reason.TheVariants.{MissingAnchor, NoRepository, NoManifest, Missing}
use Rattle.rpki_validation.specs.declared.reason.Reason.TheVariants.{NoList, MissingFile, OtherFile, LongUri}
use Rattle.rpki_validation.specs.declared.reason.Reason.TheVariants.{MalformedCert, Malformed, Invalid}
use Rattle.rpki_validation.specs.declared.stop.Stop.{Stop}
use Rattle.rpki_validation.specs.declared.stop.Stop.TheVariants.{Rejected, OutOfMemory}

-- ---- what is found

-- P is true of this alone
pub record IsSole {V : Type 0} (P : V → Type 0) (v : V) : Type 0 where
  pub holds : P v
  pub sole : (w : V) → P w → w ≡ v

-- P is true of nothing
abbrev pub IsNone : {V : Type 0} → (V → Type 0) → Type 0
IsNone {V} P = (v : V) → P v → ⊥

-- P is true of nothing, and K is true of the reason; or allocation failed
abbrev pub StopsAt : {V : Type 0} → (V → Type 0) → (Reason → Type 0) → Stop → Type 0
StopsAt P K (Rejected reason) = IsNone P × K reason
StopsAt P K OutOfMemory = Unit {0}

-- something is rejected, and K is true of the reason
abbrev pub IsRejected : (Reason → Type 0) → Stop → Type 0
IsRejected K (Rejected reason) = K reason
IsRejected K OutOfMemory = ⊥

-- the one thing that P is true of; or why there is none
abbrev pub Finds : {X V : Type 0} → (X → V) → (V → Type 0) → (Reason → Type 0) → Result X Stop → Type 0
Finds view P K r = MatchResult r (λ x. IsSole P (view x)) (StopsAt P K)

-- ---- why work on an object ends, by the error of a layer below

abbrev pub stop_of : DecodeError → Stop
stop_of Truncated = Rejected (Malformed Truncated)
stop_of BadTag = Rejected (Malformed BadTag)
stop_of BadLength = Rejected (Malformed BadLength)
stop_of Unexpected = Rejected (Malformed Unexpected)
stop_of (Content e) = Rejected (Malformed (Content e))
stop_of Trailing = Rejected (Malformed Trailing)
stop_of der.OutOfMemory = OutOfMemory

abbrev pub cert_stop : CertError → DecodeError → Stop
cert_stop q Truncated = Rejected (MalformedCert q)
cert_stop q BadTag = Rejected (MalformedCert q)
cert_stop q BadLength = Rejected (MalformedCert q)
cert_stop q Unexpected = Rejected (MalformedCert q)
cert_stop q (Content e) = Rejected (MalformedCert q)
cert_stop q Trailing = Rejected (MalformedCert q)
cert_stop q der.OutOfMemory = OutOfMemory

abbrev pub cert_stop_of : CertError → Stop
cert_stop_of q = cert_stop q q.error

abbrev pub decoding_stop : DecodeError → Stop
decoding_stop Truncated = Rejected (Invalid (Decoding Truncated))
decoding_stop BadTag = Rejected (Invalid (Decoding BadTag))
decoding_stop BadLength = Rejected (Invalid (Decoding BadLength))
decoding_stop Unexpected = Rejected (Invalid (Decoding Unexpected))
decoding_stop (Content e) = Rejected (Invalid (Decoding (Content e)))
decoding_stop Trailing = Rejected (Invalid (Decoding Trailing))
decoding_stop der.OutOfMemory = OutOfMemory

abbrev pub invalid_stop_of : ValidationError → Stop
invalid_stop_of (Decoding e) = decoding_stop e
invalid_stop_of (Inspection e) = Rejected (Invalid (Inspection e))
invalid_stop_of (Verification e) = Rejected (Invalid (Verification e))

-- ---- true reasons

-- octets are no object, as M says of the error; or an object that isn't valid, as V says of it
abbrev pub IsObjectReason : (DecodeError → Type 0) → (ValidationError → Type 0) → Reason → Type 0
IsObjectReason M V MissingAnchor = ⊥
IsObjectReason M V NoRepository = ⊥
IsObjectReason M V NoManifest = ⊥
IsObjectReason M V Missing = ⊥
IsObjectReason M V NoList = ⊥
IsObjectReason M V (MissingFile uri) = ⊥
IsObjectReason M V (OtherFile uri) = ⊥
IsObjectReason M V LongUri = ⊥
IsObjectReason M V (MalformedCert q) = ⊥
IsObjectReason M V (Malformed e) = M e
IsObjectReason M V (Invalid e) = V e

-- the same of a certificate
abbrev pub IsCertReason : (CertError → Type 0) → (ValidationError → Type 0) → Reason → Type 0
IsCertReason M V MissingAnchor = ⊥
IsCertReason M V NoRepository = ⊥
IsCertReason M V NoManifest = ⊥
IsCertReason M V Missing = ⊥
IsCertReason M V NoList = ⊥
IsCertReason M V (MissingFile uri) = ⊥
IsCertReason M V (OtherFile uri) = ⊥
IsCertReason M V LongUri = ⊥
IsCertReason M V (MalformedCert q) = M q
IsCertReason M V (Malformed e) = ⊥
IsCertReason M V (Invalid e) = V e
