-- Object identifiers as texts (X.690 8.19.2, RFC 4512 1.4): their arcs in decimal digits, with a dot between two of
-- them.
use Rattle.std.specs.Prelude.{ℕ, ◌+◌, ◌-◌, ◌*◌, ◌^◌, nat_lt, if◌then◌else◌, List, [], ◌∷◌, ◌++◌, codes, decimal, Option}
use Rattle.std.specs.Prelude.{Some, None, option_map}
use Rattle.std.specs.List.{flat_map}
use Rattle.rpki_fields.specs.ValueText.{hex_digits}

-- The subidentifiers that the octets are, where n is what has been read of the first: seven bits of each octet, of
-- which the last is below 128. None where one has more than eight octets and isn't below 2^63.
unfoldable pub numbers_from : ℕ → List ℕ → Option (List ℕ)
numbers_from n [] = Some []
numbers_from n (x ∷ xs) =
    if nat_lt n (2 ^ 56)
    then (if nat_lt x 128
    then option_map (λ ns. (n * 128 + x) ∷ ns) (numbers_from 0 xs)
    else numbers_from (n * 128 + (x - 128)) xs)
    else None

abbrev pub numbers_of : List ℕ → Option (List ℕ)
numbers_of octets = numbers_from 0 octets

-- the two arcs that the first subidentifier is (X.690 8.19.4)
abbrev pub first_arcs : ℕ → List ℕ
first_arcs n =
    if nat_lt n 40 then codes "0." ++ decimal n
    else if nat_lt n 80 then codes "1." ++ decimal (n - 40)
    else codes "2." ++ decimal (n - 80)

-- an arc after a dot
abbrev pub next_arc : ℕ → List ℕ
next_arc n = codes "." ++ decimal n

abbrev pub dotted : List ℕ → List ℕ
dotted [] = []
dotted (n ∷ ns) = first_arcs n ++ flat_map next_arc ns

abbrev pub text_of_numbers : List ℕ → Option (List ℕ) → List ℕ
text_of_numbers octets None = codes "OID " ++ hex_digits octets
text_of_numbers octets (Some ns) = dotted ns

-- the arcs of the identifier with these contents octets; where one is too large for that, its octets
abbrev pub identifier_text : List ℕ → List ℕ
identifier_text octets = text_of_numbers octets (numbers_of octets)
