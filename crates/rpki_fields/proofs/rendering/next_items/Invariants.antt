use Rattle.std.proofs.Common.{◌≡◌, take}
use Rattle.std.specs.List.{flat_map}
use Rattle.rpki_fields.specs.Rendering.{next_item}
use Rattle.rpki_fields.proofs.rendering.next_items.Given as goal

abbrev pub invariant-items : goal.invariant-items
invariant-items l = l.text.items ≡ flat_map next_item (take l.item-index l.items)
