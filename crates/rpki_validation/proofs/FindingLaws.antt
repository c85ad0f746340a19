-- What a step finds, and why it stops.
use Rattle.rpki_der.specs.Prelude.{UnlessMemory}
use Rattle.rpki_der.specs.declared.error.DecodeError.{DecodeError}
use Rattle.rpki_der.specs.declared.error.DecodeError.TheVariants.{Truncated, BadTag, BadLength, Unexpected, Content}
use Rattle.rpki_der.specs.declared.error.DecodeError.TheVariants.{Trailing}
use Rattle.rpki_der.specs.declared.error.DecodeError.TheVariants as der
use Rattle.rpki.specs.declared.repository.error.ValidationError.{ValidationError}
use Rattle.rpki.specs.declared.repository.error.ValidationError.TheVariants.{Decoding, Inspection, Verification}
use Rattle.rpki_cert.specs.declared.read.cert_error.CertError.{CertError}
use Rattle.rpki_cert.specs.Known.{UnlessNoMemory}
use Rattle.rpki_validation.specs.declared.reason.Reason.{Reason}
use Rattle.rpki_validation.specs.declared.reason.Reason.TheVariants.{MalformedCert, Malformed, Invalid}
use Rattle.rpki_validation.specs.declared.stop.Stop.{Stop}
use Rattle.rpki_validation.specs.declared.stop.Stop.TheVariants.{Rejected, OutOfMemory}
use Rattle.rpki_validation.specs.Finding.{IsNone, StopsAt, stop_of, cert_stop_of}
use Rattle.rpki_validation.specs.Finding.{cert_stop, invalid_stop_of}

-- ---- why a step stops: by the error of the layer below

module _ {V : Type 0} (P : V → Type 0) (K : Reason → Type 0) where
  pub stops-malformed : (e : DecodeError) → UnlessMemory e (IsNone P) → K (Malformed e) → StopsAt P K (stop_of e)
  stops-malformed Truncated none k = (none, k)
  stops-malformed BadTag none k = (none, k)
  stops-malformed BadLength none k = (none, k)
  stops-malformed Unexpected none k = (none, k)
  stops-malformed (Content e) none k = (none, k)
  stops-malformed Trailing none k = (none, k)
  stops-malformed der.OutOfMemory none k = tt

  cert-stops : (q : CertError) (e : DecodeError) → UnlessMemory e (IsNone P) → K (MalformedCert q)
      → StopsAt P K (cert_stop q e)
  cert-stops q Truncated none k = (none, k)
  cert-stops q BadTag none k = (none, k)
  cert-stops q BadLength none k = (none, k)
  cert-stops q Unexpected none k = (none, k)
  cert-stops q (Content e) none k = (none, k)
  cert-stops q Trailing none k = (none, k)
  cert-stops q der.OutOfMemory none k = tt

  pub stops-malformed-cert : (q : CertError) → UnlessMemory q.error (IsNone P) → K (MalformedCert q)
      → StopsAt P K (cert_stop_of q)
  stops-malformed-cert q none k = cert-stops q q.error none k

  decoding-stops : (e : DecodeError) → UnlessMemory e (IsNone P) → K (Invalid (Decoding e))
      → StopsAt P K (invalid_stop_of (Decoding e))
  decoding-stops Truncated none k = (none, k)
  decoding-stops BadTag none k = (none, k)
  decoding-stops BadLength none k = (none, k)
  decoding-stops Unexpected none k = (none, k)
  decoding-stops (Content e) none k = (none, k)
  decoding-stops Trailing none k = (none, k)
  decoding-stops der.OutOfMemory none k = tt

  pub stops-invalid : (e : ValidationError) → UnlessNoMemory e (IsNone P) → K (Invalid e)
      → StopsAt P K (invalid_stop_of e)
  stops-invalid (Decoding e) none k = decoding-stops e none k
  stops-invalid (Inspection e) none k = (none, k)
  stops-invalid (Verification e) none k = (none, k)

  -- of another step, where nothing is found in the one, and so nothing in the other
  pub stops-later : {W : Type 0} (Q : W → Type 0) (L : Reason → Type 0) (s : Stop) → StopsAt Q L s
      → (IsNone Q → IsNone P) → ((reason : Reason) → L reason → K reason) → StopsAt P K s
  stops-later Q L (Rejected reason) h none why = (none h.0, why reason h.1)
  stops-later Q L OutOfMemory h none why = tt
