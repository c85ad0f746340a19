-- Octets as hexadecimal digits in upper case (RFC 4648 section 8).
use Rattle.std.specs.Prelude.{ℕ, ◌≡◌, ⊤, ◌+◌, ◌/◌, ◌%◌, List, [], ◌∷◌, nat_lt, if◌then◌else◌}
use Rattle.std.specs.Borrow.{MutBor, Fml, Array, u8, follows_so}
use mathlib.Core.Option.{none}

-- `0` to `9` and `A` to `F`
abbrev pub hex_digit : ℕ → ℕ
hex_digit n = if nat_lt n 10 then 48 + n else 55 + n

-- two digits an octet, the high one first
abbrev pub hex_text : List ℕ → List ℕ
hex_text [] = []
hex_text (b ∷ bytes) = hex_digit (b / 16) ∷ hex_digit (b % 16) ∷ hex_text bytes

-- what was borrowed as `buffer` holds `octets` once the borrow is over
abbrev pub EndsAs : MutBor (List ℕ) → List ℕ → Fml
EndsAs buffer octets = follows_so (Array u8 0) (Array u8 0) buffer.ghost_name none (λ _ _. ⊤) (λ last. last ≡ octets)
