use Rattle.std.proofs.Common.{ap, ◌∙◌}
use Rattle.rpki_fields.specs.Sheet.{plain_sheet}
use Rattle.rpki_fields.proofs.locator_text.locator_sheet.Goals as goal

pub returns : goal.returns
returns c = (
  c.in_ok-shown.shown.items,
  c.in_ok-shown.ensures,
  c.plain.ensures ∙ ap plain_sheet c.in_ok-fields.ensures,
)
