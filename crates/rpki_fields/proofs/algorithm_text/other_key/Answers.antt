use Rattle.std.proofs.Common.{refl, ◌∙◌}
use Rattle.rpki_fields.proofs.algorithm_text.other_key.Goals as goal

pub returns : goal.returns
returns c = (
  _,
  c.in_ok-size.ensures,
  c.in_ok-push_field-2.ensures ∙ rw (
    c.in_ok-push_size_if.ensures,
    c.in_ok-push_field.ensures,
    c.new-fields.ensures.items,
    c.as_slice.ensures.value,
    c.as_slice-2.ensures.value,
    c.in_ok-push_key_name.ensures,
    c.new-name.ensures.items,
    c.algorithm.ensures,
    c.in_ok-digest.ensures,
    c.digest.ensures,
    c.octet_slice.ensures,
    c.bits.ensures,
  ) refl,
)
