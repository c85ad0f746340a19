use Rattle.std.proofs.Common.{List, length}
use Rattle.rpki_der.specs.Cursor.{left}
use Rattle.rpki_attributes.specs.SignedAttributes.{Attribute}
use Rattle.rpki_attributes.proofs.TogetherLaws.{Begins}
use Rattle.rpki_attributes.proofs.fault.list_fault.Given as goal

abbrev pub invariant-attributes : goal.invariant-attributes
invariant-attributes l = (xs : List Attribute) × Begins (left l.contents) xs (left l.rest)

abbrev pub decreases-attributes : goal.decreases-attributes
decreases-attributes l = length (left l.rest)
