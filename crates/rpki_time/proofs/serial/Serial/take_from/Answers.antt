use Rattle.std.proofs.Common.{ap, subst, sym, ◌∙◌}
use Rattle.rpki_der.specs.Integer.{IsMagnitude}
use Rattle.rpki_der.proofs.TriedLaws.{tried-refused}
use Rattle.rpki_time.specs.Serial.{IsLong}
use Rattle.rpki_time.specs.ErrorTexts.{serial_error_text}
use Rattle.rpki_time.proofs.SerialReadingLaws.{unsigned-refused, serial-accepted, serial-too-long, refused-long}
use Rattle.rpki_time.proofs.serial.Serial.take_from.Goals as goal

pub returns-in_err-number : goal.returns-in_err-number
returns-in_err-number c =
    tried-refused _ _ _ _ _ _ _ c.from_residual.ensures (unsigned-refused _ _ _ c.in_err-number.ensures)

pub returns-in-Ok : goal.returns-in-Ok
returns-in-Ok c =
    let octets = c.as_slice.ensures.octets in
    let short : IsLong c.in_ok-number.number
    → ⊥ = λ h. let e = c.in-Ok.ensures.long.1 (subst IsLong (sym octets) h) in absurd (cc) in
    serial-accepted _ _ c.in_ok-number.number c.in-Ok.serial c.in_ok-number.ensures c.as_slice.ensures.magnitude short
    (rw octets at c.in-Ok.ensures.value)

pub returns-in-Err : goal.returns-in-Err
returns-in-Err c =
    let octets = c.as_slice.ensures.octets in
    let m = subst IsMagnitude (sym octets) c.as_slice.ensures.magnitude in
    let why = refused-long c.in-Err.e c.as_slice.result.now c.in-Err.ensures.empty c.in-Err.ensures.long m in
    serial-too-long _ _ c.in_ok-number.number c.from.result c.in_ok-number.ensures c.as_slice.ensures.magnitude
    (subst IsLong octets why.1) (c.from.ensures ∙ ap serial_error_text why.0)
