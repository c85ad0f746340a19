use Rattle.std.proofs.Common.{◌+◌, ◌-◌, ◌≤◌, length}
use Rattle.rpki_c.proofs.FaultLaws.{IsOpen}
use Rattle.rpki_c.proofs.faults.fault_of.Given as goal

abbrev pub invariant-values : goal.invariant-values
invariant-values l = record {
  low : l.place ≤ l.end;
  high : l.end ≤ length l.octets;
  opened : IsOpen l.octets l.around.items l.end l.place;
}

abbrev pub decreases-values : goal.decreases-values
decreases-values l = (length l.octets - l.place) + length l.around.items
