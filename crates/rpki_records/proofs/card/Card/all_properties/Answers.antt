use Rattle.rpki_records.specs.Card.{given_property_at}
use Rattle.rpki_records.proofs.FirstsLaws.{next_first}
use Rattle.rpki_records.proofs.card.Card.all_properties.Goals as goal

pub properties-preserved : goal.properties-preserved
properties-preserved c =
    next_first given_property_at c.properties.number c.args.self.lines.now _ _ _ _ _ c.properties.invariant.0
    c.properties.invariant.1 c.next_property.ensures.given c.in_ok-push_property.ensures
