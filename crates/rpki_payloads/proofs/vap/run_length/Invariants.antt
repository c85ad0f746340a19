use Rattle.std.proofs.Common.{◌≡◌, ◌+◌, length}
use Rattle.rpki_payloads.specs.Vap.{run}
use Rattle.rpki_payloads.proofs.vap.run_length.Given as goal

abbrev pub invariant-pairs : goal.invariant-pairs
invariant-pairs l =
    (run l.customer l.pairs ≡ l.count + run l.customer l.rest) × (length l.pairs ≡ l.count + length l.rest)

abbrev pub decreases-pairs : goal.decreases-pairs
decreases-pairs l = length l.rest
