use Rattle.std.proofs.Common.{◌≡◌, drop}
use Rattle.rpki_attributes.specs.SignedAttributes.{attributes_in, are_known}
use Rattle.rpki_attributes.proofs.attribute.are_known.Given as goal

abbrev pub invariant-attributes : goal.invariant-attributes
invariant-attributes l =
    are_known (attributes_in l.all) ≡ are_known (attributes_in (drop l.attribute-index l.all))
