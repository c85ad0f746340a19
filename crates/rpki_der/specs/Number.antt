-- Numbers written in octets, the most significant first.
use Rattle.std.specs.Prelude.{ℕ, zero, suc, ◌+◌, ◌*◌, ◌/◌, ◌%◌, ◌^◌, ◌<◌, List, [], ◌∷◌, length}

-- the number that the octets write
abbrev pub number_of : List ℕ → ℕ
number_of [] = 0
number_of (x ∷ xs) = x * 256 ^ length xs + number_of xs

-- each element is an octet
abbrev pub AreOctets : List ℕ → Type 0
AreOctets [] = Unit {0}
AreOctets (x ∷ xs) = (x < 256) × AreOctets xs

-- the last k octets of the number
unfoldable pub low_octets : ℕ → ℕ → List ℕ
low_octets zero n = []
low_octets (suc k) n = (n / 256 ^ k % 256) ∷ low_octets k n
