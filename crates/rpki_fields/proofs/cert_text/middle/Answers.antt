use Rattle.std.proofs.Common.{refl, ◌∙◌}
use Rattle.rpki_fields.proofs.cert_text.middle.Goals as goal

pub returns : goal.returns
returns c = (
  c.in_ok-subject.subject.items,
  c.in_ok-subject.ensures,
  c.in_ok-push_field.ensures ∙ rw (
    c.in_ok-push_time-2.ensures,
    c.in_ok-push_time.ensures,
    c.new-fields.ensures.items,
    c.as_slice.ensures.value,
    c.not_before.ensures,
    c.not_after.ensures,
  ) refl,
)
