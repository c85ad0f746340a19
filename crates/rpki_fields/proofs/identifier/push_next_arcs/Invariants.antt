use Rattle.std.proofs.Common.{◌≡◌, ◌++◌, take}
use Rattle.std.specs.List.{flat_map}
use Rattle.rpki_fields.specs.IdentifierText.{next_arc}
use Rattle.rpki_fields.proofs.identifier.push_next_arcs.Given as goal

abbrev pub invariant-numbers : goal.invariant-numbers
invariant-numbers l = l.text.items ≡ l.initial.text.items ++ flat_map next_arc (take l.number-index l.numbers)
