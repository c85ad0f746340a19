use Rattle.std.proofs.Common.{◌≡◌, take, map}
use Rattle.std.specs.List.{flat_map}
use Rattle.rpki_records.specs.Card.{found_property}
use Rattle.rpki_records.specs.CardValues.{value_of}
use Rattle.rpki_records.proofs.card_values.values_of.Given as goal

-- those of the properties so far
abbrev pub invariant-properties : goal.invariant-properties
invariant-properties l =
    map (λ value. value.now) l.values.items
    ≡ flat_map (value_of l.kind) (map found_property (take l.property-index l.properties))
