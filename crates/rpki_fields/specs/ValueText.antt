-- Values as texts: octets, numbers and times.
use Rattle.std.specs.Prelude.{◌≡◌, ℕ, ◌/◌, ◌%◌, List, [], ◌∷◌, ◌++◌}
use Rattle.std.specs.Fmt.{signed_decimal}
use Rattle.std.specs.List.{flat_map}
use Rattle.jiff.specs.Types.{DateTime}
use Rattle.jiff.specs.Words.{civil_seconds}
use Rattle.rpki_der.specs.Number.{number_of}
use Rattle.rpki_der.specs.Integer.{IsMagnitude}
use Rattle.rpki_text.specs.HexText.{hex_digit}
use Rattle.rpki_time.specs.TimeText.{two_digits, year_number}

-- two hexadecimal digits in upper case, the high one first
abbrev pub hex_pair : ℕ → List ℕ
hex_pair octet = hex_digit (octet / 16) ∷ hex_digit (octet % 16) ∷ []

-- the digits of octets, in sequence
abbrev pub hex_digits : List ℕ → List ℕ
hex_digits octets = flat_map hex_pair octets

-- the digits of octets, with a colon between two octets
abbrev pub colon_digits : List ℕ → List ℕ
colon_digits [] = []
colon_digits (octet ∷ octets) = hex_pair octet ++ flat_map (λ each. 58 ∷ hex_pair each) octets

-- a number, as the digits of its octets, of which the first is not 0; 0 is one octet
abbrev pub IsNumberText : ℕ → List ℕ → Type 0
IsNumberText number text =
    (octets : List ℕ) × IsMagnitude octets × (number_of octets ≡ number) × (text ≡ hex_digits octets)

-- a time, as YYYY-MM-DD HH:MM:SSZ (ISO 8601)
abbrev pub time_text : DateTime → List ℕ
time_text t =
    two_digits (year_number t / 100) ++ two_digits (year_number t % 100) ++ 45 ∷ two_digits t.date.month
    ++ 45 ∷ two_digits t.date.day ++ 32 ∷ two_digits t.time.hour ++ 58 ∷ two_digits t.time.minute
    ++ 58 ∷ two_digits t.time.second ++ 90 ∷ []

-- the same as the whole seconds since 1970-01-01 00:00:00, in decimal digits, with a hyphen in front before it
abbrev pub seconds_text : DateTime → List ℕ
seconds_text t = signed_decimal (civil_seconds t)
