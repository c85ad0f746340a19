-- Entries of a revocation list (RFC 5280 5.1.2.6).
use Rattle.std.specs.Prelude.{ℕ}
use Rattle.jiff.specs.Types.{DateTime}
use Rattle.rpki_der.specs.Prelude.{sequence, Format, around, only, then}
use Rattle.rpki_time.specs.Serial.{serial_number}
use Rattle.rpki_time.specs.TimeValue.{time}
use Rattle.rpki_examples.specs.declared.revoked.RevokedCertificate.{RevokedCertificate}

-- the number and the time
abbrev pub entry_of : RevokedCertificate → ℕ × DateTime
entry_of c = (c.serial, c.date)

-- a serial number, and then a time, and nothing else
abbrev pub entry_parts : Format (ℕ × DateTime)
entry_parts = then serial_number (only time)

abbrev pub entry : Format (ℕ × DateTime)
entry = around sequence entry_parts
