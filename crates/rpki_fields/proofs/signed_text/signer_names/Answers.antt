use Rattle.std.proofs.Common.{refl, ◌∙◌}
use Rattle.rpki_fields.proofs.signed_text.signer_names.Goals as goal

pub returns : goal.returns
returns c = (
  c.in_ok-issuer.issuer.items,
  c.in_ok-serial.serial.items,
  rw c.issuer.ensures at c.in_ok-issuer.ensures,
  rw c.serial_number.ensures at c.in_ok-serial.ensures,
  c.in_ok-push_field-2.ensures ∙ rw (
    c.in_ok-push_field.ensures,
    c.new-fields.ensures.items,
    c.as_slice.ensures.value,
    c.as_slice-2.ensures.value,
  ) refl,
)
