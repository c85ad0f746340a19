use Rattle.std.proofs.Common.{◌↔◌, length}
use Rattle.rpki_der.specs.Cursor.{left}
use Rattle.rpki_der.specs.Members.{IsValueList}
use Rattle.rpki_x509.proofs.nested.are_values.Given as goal

abbrev pub invariant-values : goal.invariant-values
invariant-values l = IsValueList (left l.rest) ↔ IsValueList (left l.fn.contents)

abbrev pub decreases-values : goal.decreases-values
decreases-values l = length (left l.rest)
