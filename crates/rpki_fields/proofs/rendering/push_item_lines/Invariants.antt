use Rattle.std.proofs.Common.{◌≡◌, ◌++◌, take}
use Rattle.rpki_fields.specs.Rendering.{item_lines}
use Rattle.rpki_fields.proofs.rendering.push_item_lines.Given as goal

abbrev pub invariant-items : goal.invariant-items
invariant-items l = l.text.items ≡ l.initial.text.items ++ item_lines l.label (take l.item-index l.items)
