use Rattle.std.proofs.Common.{List, ap, ◌∙◌, append_assoc}
use Rattle.rpki_fields.specs.Field.{FieldParts}
use Rattle.rpki_fields.specs.Sheet.{plain_sheet}
use Rattle.rpki_fields.proofs.other_text.other_sheet.Goals as goal

pub returns : goal.returns
returns c = (
  c.in_ok-fields.fields.items,
  c.in_ok-fields.ensures,
  c.plain.ensures ∙ ap (λ (fields : List FieldParts). plain_sheet fields)
      (c.in_ok-push_number.ensures ∙ rw (
        c.in_ok-push_field.ensures,
        c.as_slice-2.ensures.value,
        c.in_ok-identifier.ensures,
        c.as_slice.ensures,
        c.content_type.ensures,
        c.as_slice-3.ensures,
        c.content.ensures,
      ) (append_assoc c.in_ok-fields.fields.items _ _)),
)
