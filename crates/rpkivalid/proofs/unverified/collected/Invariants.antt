use Rattle.std.proofs.Common.{◌≡◌, ◌++◌, length}
use Rattle.rpkivalid.proofs.unverified.collected.Given as goal

-- the rest follow
abbrev pub invariant-origins : goal.invariant-origins
invariant-origins l = l.fn.rest ≡ l.all.items ++ l.rest

abbrev pub decreases-origins : goal.decreases-origins
decreases-origins l = length l.rest
