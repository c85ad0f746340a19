use Rattle.std.proofs.Common.{refl, ◌∙◌}
use Rattle.rpki_fields.proofs.other_cert_text.head.Goals as goal

pub returns : goal.returns
returns c = (
  c.in_ok-issuer.issuer.items,
  rw (c.issuer.ensures, c.tbs-2.ensures) at c.in_ok-issuer.ensures,
  c.in_ok-push_field-5.ensures ∙ rw (
    c.in_ok-push_field-4.ensures,
    c.in_ok-push_field-3.ensures,
    c.in_ok-push_field-2.ensures,
    c.in_ok-push_number.ensures,
    c.in_ok-push_field.ensures,
    c.new-fields.ensures.items,
    c.as_slice.ensures.value,
    c.as_slice-2.ensures.value,
    c.as_slice-3.ensures.value,
    c.as_slice-4.ensures.value,
    c.in_ok-serial.ensures,
    c.serial.ensures,
    c.tbs.ensures,
    c.in_ok-push_algorithm.ensures,
    c.new-name.ensures.items,
    c.identifier.ensures,
    c.algorithm.ensures,
    c.in_ok-objection.ensures,
  ) refl,
)
