use Rattle.std.proofs.Common.{length}
use Rattle.rpki_der.specs.Cursor.{left}
use Rattle.rpki_der.specs.Each.{EachRead}
use Rattle.rpki_der.specs.Keeping.{KeptCallReads}
use Rattle.rpki_der.proofs.cursor.Constructed.take_each_with.Given as goal

abbrev pub invariant-values : goal.invariant-values
invariant-values g l = EachRead (KeptCallReads g.K.Keep.holds g.F.Fn l.op) (left l.self) l.values.items (left l.rest) ×
    g.K.Keep.holds l.keep (left l.rest)

abbrev pub decreases-values : goal.decreases-values
decreases-values g l = length (left l.rest)
