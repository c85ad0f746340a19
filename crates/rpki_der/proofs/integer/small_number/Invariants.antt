use Rattle.std.proofs.Common.{◌≡◌, ◌+◌, ◌*◌, ◌^◌, length}
use Rattle.rpki_der.specs.Number.{number_of}
use Rattle.rpki_der.proofs.integer.small_number.Given as goal

-- what was read, before the remaining octets, writes the number
abbrev pub invariant-octets : goal.invariant-octets
invariant-octets l = number_of l.octets ≡ l.number * 256 ^ length l.rest + number_of l.rest

abbrev pub decreases-octets : goal.decreases-octets
decreases-octets l = length l.rest
