use Rattle.std.proofs.Common.{◌≡◌, length}
use Rattle.std.specs.Prelude.{None}
use Rattle.rpki_payloads.specs.Metrics.{first_end}
use Rattle.rpki_payloads.proofs.metrics.first_end.Given as goal

abbrev pub invariant-all : goal.invariant-all
invariant-all l = first_end l.first l.rest ≡ first_end None l.all

abbrev pub decreases-all : goal.decreases-all
decreases-all l = length l.rest
