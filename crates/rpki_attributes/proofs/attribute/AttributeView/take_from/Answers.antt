use Rattle.std.proofs.Common.{rules}
use Rattle.rpki_der.specs.TagName.{sequence}
use Rattle.rpki_der.proofs.FormatLaws.{takes-around}
use Rattle.rpki_attributes.specs.SignedAttributes.{attribute_of, attribute_parts}
use Rattle.rpki_attributes.proofs.attribute.AttributeView.take_from.Goals as goal

pub returns : goal.returns
returns c = takes-around attribute_of sequence attribute_parts _ (λ b a x h. search rules) _ _ _ c.in_sequence.ensures
