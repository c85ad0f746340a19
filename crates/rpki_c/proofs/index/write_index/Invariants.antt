use Rattle.std.proofs.Common.{◌-◌, ◌≤◌, length}
use Rattle.rpki_c.proofs.FillingLaws.{IsFilling}
use Rattle.rpki_c.proofs.index.write_index.Given as goal

abbrev pub invariant-values : goal.invariant-values
invariant-values l = record {
  low : l.place ≤ length l.octets;
  filling : IsFilling l.octets l.count l.fn.entries l.entries l.place l.number l.last;
}

abbrev pub decreases-values : goal.decreases-values
decreases-values l = l.count - l.number
