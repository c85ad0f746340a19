-- Errors that are no allocation failure.
use Rattle.std.proofs.Common.{◌≡◌, false}
use Rattle.rpki_der.proofs.ReadingLaws.{isnt-out, unless-memory as unless-other-error}
use Rattle.rpki.specs.declared.repository.error.ValidationError.{ValidationError}
use Rattle.rpki.specs.declared.repository.error.ValidationError.TheVariants.{Decoding, Inspection as Inspected}
use Rattle.rpki.specs.declared.repository.error.ValidationError.TheVariants.{Verification}
use Rattle.rpki_cert.specs.Known.{UnlessNoMemory, is_memory}

-- an error that is no allocation failure
pub unless-memory : (e : ValidationError) (P : Type 0) → is_memory e ≡ false → UnlessNoMemory e P → P
unless-memory (Decoding e) P z h = unless-other-error e (isnt-out e z) h
unless-memory (Inspected e) P z h = h
unless-memory (Verification e) P z h = h
