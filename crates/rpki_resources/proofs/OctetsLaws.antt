-- Numbers of sixteen octets.
use Rattle.std.proofs.Common.{◌≤◌, ◌<◌, ◌^◌, ℕ, List, length, arith}
use Rattle.rpki_der.specs.Number.{number_of, AreOctets}
use Rattle.rpki_der.specs.NumberLaws.{number-lt}
use Rattle.std.proofs.Math.Nat.{pow-le-pow_right}

-- sixteen octets write a number below 2 ^ 128
pub sixteen-octets : (xs : List ℕ) → AreOctets xs → length xs ≤ 16 → number_of xs < 2 ^ 128
sixteen-octets xs o few = let lt = number-lt xs o in let grow : 256 ^ length xs ≤ 256 ^ 16 =
    pow-le-pow_right (omega arith) few in omega arith
