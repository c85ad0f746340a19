use Rattle.std.proofs.Common.{◌≡◌, take}
use Rattle.rpki_fields.specs.Rendering.{lines}
use Rattle.rpki_fields.proofs.rendering.lines.Given as goal

abbrev pub invariant-fields : goal.invariant-fields
invariant-fields l = l.text.items ≡ lines (take l.field-index l.fields)
