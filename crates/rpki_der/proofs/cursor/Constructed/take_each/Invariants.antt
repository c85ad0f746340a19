use Rattle.std.proofs.Common.{length}
use Rattle.rpki_der.specs.Cursor.{left}
use Rattle.rpki_der.specs.Each.{CallReads, EachRead}
use Rattle.rpki_der.proofs.cursor.Constructed.take_each.Given as goal

abbrev pub invariant-values : goal.invariant-values
invariant-values g l = EachRead (CallReads g.F.Fn l.op) (left l.self) l.values.items (left l.rest)

abbrev pub decreases-values : goal.decreases-values
decreases-values g l = length (left l.rest)
