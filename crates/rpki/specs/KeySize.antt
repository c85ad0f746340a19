-- How many bits a number has.
use Rattle.std.specs.Prelude.{ℕ, ◌+◌, ◌*◌, nat_lt, if◌then◌else◌, List, [], ◌∷◌, length}

-- the bits of an octet, without the zeros in front
abbrev pub octet_bits : ℕ → ℕ
octet_bits octet =
    if nat_lt octet 1 then 0 else if nat_lt octet 2 then 1 else if nat_lt octet 4 then 2
    else if nat_lt octet 8 then 3 else if nat_lt octet 16 then 4 else if nat_lt octet 32 then 5
    else if nat_lt octet 64 then 6 else if nat_lt octet 128 then 7 else 8

-- the bits of the number that these octets write, the first of which is not 0
abbrev pub number_bits : List ℕ → ℕ
number_bits [] = 0
number_bits (octet ∷ octets) = octet_bits octet + 8 * length octets
