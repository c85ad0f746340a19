use Rattle.std.proofs.Common.{◌≡◌, ◌++◌, length, map}
use Rattle.rpki_validation.specs.Holding.{in_period}
use Rattle.rpki_validation.proofs.visit.push_origins.Given as goal

-- the rest are to be added
abbrev pub invariant-origins : goal.invariant-origins
invariant-origins l =
    l.fn.origins.items ++ map (in_period l.period) l.fn.rest ≡ l.origins.items ++ map (in_period l.period) l.rest

abbrev pub decreases-origins : goal.decreases-origins
decreases-origins l = length l.rest
