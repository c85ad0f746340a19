use Rattle.std.proofs.Common.{refl, ◌∙◌}
use Rattle.rpki_fields.proofs.manifest_text.manifest_fields.Goals as goal

pub returns : goal.returns
returns c = (
  c.in_ok-number.number.items,
  rw c.manifest_number.ensures at c.in_ok-number.ensures,
  c.in_ok-push_time-2.ensures ∙ rw (
    c.in_ok-push_time.ensures,
    c.in_ok-push_field.ensures,
    c.new-fields.ensures.items,
    c.as_slice.ensures.value,
    c.this_update.ensures.time,
    c.next_update.ensures,
  ) refl,
)
