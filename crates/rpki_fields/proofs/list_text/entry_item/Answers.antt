use Rattle.std.proofs.Common.{refl, ◌∙◌}
use Rattle.rpki_fields.proofs.list_text.entry_item.Goals as goal

pub returns : goal.returns
returns c = (
  c.in_ok-serial.serial.items,
  c.in_ok-serial.ensures,
  c.new.ensures ∙ c.in_ok-push_time.ensures
      ∙ rw (c.in_ok-push_field.ensures, c.new-fields.ensures.items, c.as_slice.ensures.value) refl,
)
