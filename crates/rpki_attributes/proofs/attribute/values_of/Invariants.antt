use Rattle.std.proofs.Common.{◌≡◌, drop}
use Rattle.rpki_attributes.specs.SignedAttributes.{attributes_in, values_of}
use Rattle.rpki_attributes.proofs.SoughtLaws.{found_before}
use Rattle.rpki_attributes.proofs.attribute.values_of.Given as goal

abbrev pub invariant-attributes : goal.invariant-attributes
invariant-attributes l =
    values_of l.attr_type.0.now (attributes_in l.all)
    ≡ found_before l.found (values_of l.attr_type.0.now (attributes_in (drop l.attribute-index l.all)))
