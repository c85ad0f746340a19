use Rattle.rpki.specs.NameAttributes.{marked_attributes}
use Rattle.rpki.proofs.NameAttributeLaws.{all-left}
use Rattle.rpki.proofs.repository.x509.name.attributes.Attributes.of_name.Goals as goal

pub invariant_of-result : goal.invariant_of-result
invariant_of-result c =
    let n = c.requires in
    (marked_attributes n.0, all-left _ _ n.0 c.from_slice.ensures (c.relatives_of.ensures n.0 n.1))

pub returns : goal.returns
returns c = λ parts h. all-left _ _ parts c.from_slice.ensures (c.relatives_of.ensures parts h)
