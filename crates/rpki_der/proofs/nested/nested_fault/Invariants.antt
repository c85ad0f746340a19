use Rattle.std.proofs.Common.{length}
use Rattle.rpki_der.specs.Cursor.{left}
use Rattle.rpki_der.specs.Headed.{AreHeaded}
use Rattle.rpki_der.proofs.NestedLaws.{IsPending}
use Rattle.rpki_der.proofs.nested.nested_fault.Given as goal

abbrev pub invariant-headers : goal.invariant-headers
invariant-headers l = AreHeaded (left l.rest) × IsPending (left l.fn.values) (left l.rest) l.fault

abbrev pub decreases-headers : goal.decreases-headers
decreases-headers l = length (left l.rest)
