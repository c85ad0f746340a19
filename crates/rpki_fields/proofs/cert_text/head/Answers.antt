use Rattle.std.proofs.Common.{refl, ◌∙◌}
use Rattle.rpki_fields.proofs.cert_text.head.Goals as goal

pub returns : goal.returns
returns c = (
  c.in_ok-serial.serial.items,
  c.in_ok-issuer.issuer.items,
  rw c.serial_number.ensures at c.in_ok-serial.ensures,
  rw c.issuer.ensures at c.in_ok-issuer.ensures,
  c.in_ok-push_field-3.ensures ∙ rw (
    c.in_ok-push_field-2.ensures,
    c.in_ok-push_field.ensures,
    c.in_ok-push_number.ensures,
    c.new-fields.ensures.items,
    c.as_slice.ensures.value,
    c.as_slice-2.ensures.value,
  )
      refl,
)
