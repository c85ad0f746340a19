use Rattle.std.proofs.Common.{length, ◌-◌, ◌≤◌}
use Rattle.rpki_der.proofs.indexed.IndexedCursor.number.Given as goal

abbrev pub invariant-halves : goal.invariant-halves
invariant-halves l = l.high ≤ length l.self.index.now

abbrev pub decreases-halves : goal.decreases-halves
decreases-halves l = l.high - l.low
