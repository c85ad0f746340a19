use Rattle.std.proofs.Common.{◌≡◌, ◌-◌, ◌<◌, length, drop}
use Rattle.rpki_der.specs.Number.{number_of}
use Rattle.rpki_der.proofs.integer.leading_zeros.Given as goal

-- the rest still writes the number
abbrev pub invariant-loop-start : goal.invariant-loop-start
invariant-loop-start l = (l.start < length l.octets) × (number_of (drop l.start l.octets) ≡ number_of l.octets)

abbrev pub decreases-loop-start : goal.decreases-loop-start
decreases-loop-start l = length l.octets - l.start
