-- The contents octets of primitive values that are written (X.690 8.2, 8.6, 8.7, 8.8, 8.19, 11.1).
use Rattle.std.specs.Prelude.{ℕ, List, [], ◌∷◌}
use Rattle.rpki_der.specs.Leaves.{Bits}

-- NULL has none (X.690 8.8.2)
abbrev pub null_contents : Unit {0} → List ℕ
null_contents v = []

-- the subidentifiers, unchanged (X.690 8.19)
abbrev pub oid_contents : List ℕ → List ℕ
oid_contents octets = octets

-- the octets themselves (X.690 8.7.2)
abbrev pub octet_string_contents : List ℕ → List ℕ
octet_string_contents octets = octets

-- the count of unused bits, and then the octets (X.690 8.6.2)
abbrev pub bits_contents : Bits → List ℕ
bits_contents bits = bits.unused ∷ bits.octets
