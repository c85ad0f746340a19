use Rattle.std.proofs.Common.{◌≡◌, ◌++◌, length}
use Rattle.rpki_payloads.specs.Vap.{vaps}
use Rattle.rpki_payloads.proofs.vap.vaps_of.Given as goal

abbrev pub invariant-pairs : goal.invariant-pairs
invariant-pairs l = vaps l.pairs ≡ l.all.items ++ vaps l.rest

abbrev pub decreases-pairs : goal.decreases-pairs
decreases-pairs l = length l.rest
