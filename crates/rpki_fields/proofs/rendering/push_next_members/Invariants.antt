use Rattle.std.proofs.Common.{◌≡◌, ◌++◌, take}
use Rattle.std.specs.List.{flat_map}
use Rattle.rpki_fields.specs.Rendering.{next_member}
use Rattle.rpki_fields.proofs.rendering.push_next_members.Given as goal

abbrev pub invariant-fields : goal.invariant-fields
invariant-fields l = l.text.items ≡ l.initial.text.items ++ flat_map next_member (take l.field-index l.fields)
