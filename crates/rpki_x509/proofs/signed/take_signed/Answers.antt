use Rattle.std.proofs.Common.{◌+◌, ◌∙◌, Bool, length, arith, ap, refl}
use Rattle.rpki_der.proofs.TriedLaws.{tried-refused}
use Rattle.rpki.specs.Signature.{SignatureParts}
use Rattle.rpki_x509.proofs.WholeLaws.{not-true}
use Rattle.rpki_x509.proofs.WholeLaws.{no-signed, signed-unused, signed-whole}
use Rattle.rpki_x509.proofs.signed.take_signed.Goals as goal

pub returns-in_err-signed_data : goal.returns-in_err-signed_data
returns-in_err-signed_data g c = tried-refused _ _ _ _ _ _ _ c.from_residual.ensures
    (no-signed _ _ c.in_err-signed_data.field-0.0 c.in_err-signed_data.ensures)

pub returns-then-not-is_zero_before : goal.returns-then-not-is_zero_before
returns-then-not-is_zero_before g c =
    let x = c.in_ok-signed_data.signed_data in
    let value = c.value.ensures ∙ ap (λ (s : SignatureParts Bool). s.value) c.signature.ensures in
    let last = c.len.result + length c.rest.result.now in
    signed-unused _ _ x c.in_ok-signed_data.ensures last
    (omega (arith, c.len.ensures.value, ap length value, ap length c.rest.ensures)) c.is_zero_before.result
    (rw c.rest-octets.ensures at c.is_zero_before.ensures) c.content.result
    (not-true c.is_zero_before.result c.if-not-is_zero_before.true) (rw c.content.ensures refl)

pub returns : goal.returns
returns g c =
    let x = c.in_ok-signed_data.signed_data in
    let value = c.value.ensures ∙ ap (λ (s : SignatureParts Bool). s.value) c.signature.ensures in
    let last = c.len.result + length c.rest.result.now in
    signed-whole _ _ x c.in_ok-signed_data.ensures last
    (omega (arith, c.len.ensures.value, ap length value, ap length c.rest.ensures)) c.is_zero_before.result
    (rw c.rest-octets.ensures at c.is_zero_before.ensures) c.if-not-is_zero_before.false
