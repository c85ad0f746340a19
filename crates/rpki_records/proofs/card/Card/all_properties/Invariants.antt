use Rattle.std.proofs.Common.{◌≡◌, map}
use Rattle.rpki_der.specs.Cursor.{left}
use Rattle.rpki_records.specs.Card.{found_property, given_property_at}
use Rattle.rpki_records.specs.Words.{firsts}
use Rattle.rpki_records.proofs.FirstsLaws.{rest_after}
use Rattle.rpki_records.proofs.card.Card.all_properties.Given as goal

-- the properties so far, and what follows them
abbrev pub invariant-properties : goal.invariant-properties
invariant-properties l =
    (map found_property l.properties.items ≡ firsts given_property_at l.number l.self.lines.now)
    × (left l.cursor.rest ≡ rest_after given_property_at l.number l.self.lines.now)
