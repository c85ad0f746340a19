-- Which values are equal.
use Rattle.std.specs.Prelude.{Bool, nat_eq}
use Rattle.std.specs.Cmp.Lexicographic.{pointwise}
use Rattle.std.specs.Ordering.{on, eq_of_both}
use Rattle.rpki_der.specs.Leaves.{Bits}

-- bit strings of the same octets and the same count of unused bits
abbrev pub same_bits : Bits → Bits → Bool
same_bits = eq_of_both (on (λ b. b.unused) nat_eq) (on (λ b. b.octets) (pointwise nat_eq))
