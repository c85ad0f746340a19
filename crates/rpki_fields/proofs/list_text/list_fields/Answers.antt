use Rattle.std.proofs.Common.{refl, ◌∙◌}
use Rattle.rpki_fields.proofs.list_text.list_fields.Goals as goal

pub returns : goal.returns
returns c = (
  c.in_ok-issuer.issuer.items,
  c.in_ok-number.number.items,
  rw c.issuer.ensures at c.in_ok-issuer.ensures,
  rw c.crl_number.ensures at c.in_ok-number.ensures,
  c.in_ok-push_field-4.ensures ∙ rw (
    c.in_ok-push_time-2.ensures,
    c.in_ok-push_time.ensures,
    c.in_ok-push_field-3.ensures,
    c.in_ok-push_field-2.ensures,
    c.in_ok-push_field.ensures,
    c.new-fields.ensures.items,
    c.as_slice-2.ensures.value,
    c.as_slice-3.ensures.value,
    c.as_slice-4.ensures.value,
    c.in_ok-authority.ensures,
    c.as_slice.ensures.octets,
    c.authority_key_identifier-key.ensures,
    c.this_update.ensures,
    c.next_update.ensures,
  ) refl,
)
