use Rattle.rpki_der.proofs.FormatLaws.{tried, given, first, last, after, all, and}
use Rattle.rpki_attributes.specs.SignedAttributes.{attribute_of, attribute_parts}
use Rattle.rpki_attributes.proofs.attribute.fn.AttributeView.take_from.in_sequence.Goals as goal

pub returns-in_err-attr_type : goal.returns-in_err-attr_type
returns-in_err-attr_type c =
    tried attribute_of attribute_parts _ _ c.from_residual.ensures (first c.in_err-attr_type.ensures)

pub returns-in_err-values : goal.returns-in_err-values
returns-in_err-values c =
    tried attribute_of attribute_parts _ _ c.from_residual-in_err-values.ensures
    (after c.in_ok-attr_type.ensures (last c.in_err-values.ensures))

pub returns : goal.returns
returns c = given (and c.in_ok-attr_type.ensures (all c.in_ok-values.ensures))
