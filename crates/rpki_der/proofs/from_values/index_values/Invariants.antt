use Rattle.std.proofs.Common.{◌-◌, length}
use Rattle.rpki_der.proofs.IndexLaws.{IsIndexed}
use Rattle.rpki_der.proofs.from_values.index_values.Given as goal

abbrev pub invariant-values : goal.invariant-values
invariant-values l = IsIndexed l.octets l.place l.index.items

abbrev pub decreases-values : goal.decreases-values
decreases-values l = length l.octets - l.place
