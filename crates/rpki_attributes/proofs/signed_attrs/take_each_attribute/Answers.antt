use Rattle.std.proofs.Common.{rules}
use Rattle.rpki_der.specs.TagName.{sequence}
use Rattle.rpki_der.proofs.FormatLaws.{takes-each-around}
use Rattle.rpki_attributes.specs.SignedAttributes.{attribute_of, attribute_parts}
use Rattle.rpki_attributes.proofs.signed_attrs.take_each_attribute.Goals as goal

pub returns : goal.returns
returns c =
    takes-each-around attribute_of sequence attribute_parts _ (λ b a x h. search rules) (λ v. v.items) _ _ _
    c.take_each.ensures
