-- The malformed part of a certificate, and why.
use Rattle.std.specs.Prelude.{Result, Ok, Err}
use Rattle.rpki_der.specs.declared.error.DecodeError.{DecodeError}
use Rattle.rpki_cert.specs.declared.read.cert_part.CertPart.{CertPart}
use Rattle.rpki_cert.specs.declared.read.cert_error.CertError.{CertError}

abbrev pub cert_error : CertPart → DecodeError → CertError
cert_error part error = record { part = part; error = error }

-- the result without the part
abbrev pub without_part : {X : Type 0} → Result X CertError → Result X DecodeError
without_part (Ok x) = Ok x
without_part (Err q) = Err q.error
