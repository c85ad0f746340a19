use Rattle.std.proofs.Common.{◌≡◌, take}
use Rattle.std.specs.List.{flat_map}
use Rattle.rpki_fields.specs.Rendering.{item_field}
use Rattle.rpki_fields.proofs.rendering.item_fields.Given as goal

abbrev pub invariant-fields : goal.invariant-fields
invariant-fields l = l.text.items ≡ flat_map item_field (take l.field-index l.fields)
