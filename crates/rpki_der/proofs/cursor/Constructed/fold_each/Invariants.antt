use Rattle.std.proofs.Common.{length}
use Rattle.rpki_der.specs.Cursor.{left}
use Rattle.rpki_der.specs.Fold.{CallFolds, Folded}
use Rattle.rpki_der.proofs.cursor.Constructed.fold_each.Given as goal

abbrev pub invariant-values : goal.invariant-values
invariant-values g l = Folded (CallFolds g.F.Fn l.op) l.fn.first (left l.self) l.state (left l.rest)

abbrev pub decreases-values : goal.decreases-values
decreases-values g l = length (left l.rest)
