use Rattle.std.proofs.Common.{rules}
use Rattle.rpki_der.proofs.FormatLaws.{takes-around}
use Rattle.rpki_attributes.specs.SignedAttributes.{attributes_in, attributes_tag, each_attribute}
use Rattle.rpki_attributes.proofs.signed_attrs.take_attribute_list.Goals as goal

pub returns : goal.returns
returns c =
    takes-around (λ v. attributes_in v.items) attributes_tag each_attribute _ (λ b a x h. search rules) _ _ _
    (rw c.new.ensures at c.in_constructed.ensures)
