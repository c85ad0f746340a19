-- The moment at which all is to be valid, and how deep a path may be.
use Rattle.std.specs.Prelude.{◌≡◌, ◌<◌, ◌^◌, ◌&&◌, ◌||◌, not, ℕ, Bool, true, false, List, [], ◌∷◌, codes, Option, Some}
use Rattle.std.specs.Prelude.{None, IfSome, IsSomeAnd, Result, Ok, Err, ℤ, pos, if◌then◌else◌, bytes_eq, nat_eq, nat_lt}
use Rattle.std.specs.Str.Parse.{IsNumeral, digits_value, without_leading_plus}
use Rattle.jiff.specs.Types.{DateTime}
use Rattle.jiff.specs.Words.{civil_nanos, parse_timestamp, Error}
use Rattle.rpki_time.specs.Time.{IsTimeNanos}

-- ---- the text of a moment (RFC 3339 5.6)

-- an octet of a text is as a shape has it: for `d` a digit, for `x` one below 6, for another itself, for `T` and `Z`
-- also the small letter
abbrev pub is_between : (first last octet : ℕ) → Bool
is_between first last octet = not (nat_lt octet first) && not (nat_lt last octet)

abbrev pub is_like : (shape octet : ℕ) → Bool
is_like shape octet =
    if nat_eq shape 100 then is_between 48 57 octet
    else if nat_eq shape 120 then is_between 48 53 octet
    else if nat_eq shape 84 then nat_eq octet 84 || nat_eq octet 116
    else if nat_eq shape 90 then nat_eq octet 90 || nat_eq octet 122
    else nat_eq octet shape

abbrev pub fits : (shape text : List ℕ) → Bool
fits [] [] = true
fits [] (octet ∷ octets) = false
fits (one ∷ shape) [] = false
fits (one ∷ shape) (octet ∷ octets) = is_like one octet && fits shape octets

-- in whole seconds below 60, in UTC or with an offset
abbrev pub is_date_time : List ℕ → Bool
is_date_time text =
    fits (codes "dddd-dd-ddTdd:dd:xdZ") text || fits (codes "dddd-dd-ddTdd:dd:xd+dd:dd") text
    || fits (codes "dddd-dd-ddTdd:dd:xd-dd:dd") text

-- ---- the moment

-- 9999-12-31T23:59:59Z, in nanoseconds since 1970-01-01 00:00:00 in UTC
abbrev pub last_moment : ℤ
last_moment = pos 253_402_300_799_000_000_000

abbrev pub some_ok : Result ℤ Error → Option ℤ
some_ok (Ok n) = Some n
some_ok (Err e) = None

-- The moment that a text of RFC 3339 names: as jiff reads an instant; and the one that RFC 5280 4.1.2.5 names for no
-- well-defined expiration, which jiff has not.
abbrev pub moment_of : List ℕ → Option ℤ
moment_of text =
    if bytes_eq text (codes "9999-12-31T23:59:59Z") then Some last_moment
    else if is_date_time text then some_ok (parse_timestamp text)
    else None

-- the word for the moment of the clock
abbrev pub is_now : List ℕ → Bool
is_now word = bytes_eq word (codes "now")

-- the clock has this moment, where anything is known of that; or the word is the text of it
abbrev pub IsNamedBy : (now : Bool) → Option (Option DateTime) → List ℕ → DateTime → Type 0
IsNamedBy true clock word at = IfSome clock (λ now. now ≡ Some at)
IsNamedBy false clock word at = moment_of word ≡ Some (civil_nanos at)

abbrev pub IsNamed : Option (Option DateTime) → List ℕ → DateTime → Type 0
IsNamed clock word at = IsNamedBy (is_now word) clock word at

-- the word names this moment; without a word the clock has it
abbrev pub IsMomentOf : Option (Option DateTime) → Option (List ℕ) → DateTime → Type 0
IsMomentOf clock None at = IfSome clock (λ now. now ≡ Some at)
IsMomentOf clock (Some word) at = IsNamed clock word at

-- the word names no moment; without a word the clock has none
abbrev pub IsUnnamedBy : (now : Bool) → Option (Option DateTime) → List ℕ → Type 0
IsUnnamedBy true clock word = IfSome clock (λ now. now ≡ None)
IsUnnamedBy false clock word = IsSomeAnd (moment_of word) IsTimeNanos → ⊥

abbrev pub IsNoMoment : Option (Option DateTime) → Option (List ℕ) → Type 0
IsNoMoment clock None = IfSome clock (λ now. now ≡ None)
IsNoMoment clock (Some word) = IsUnnamedBy (is_now word) clock word

-- ---- how many authorities there are at most below a trust anchor

-- the word is a number, in decimal digits, below 2^32, perhaps with a plus sign
abbrev pub IsNumber : List ℕ → Type 0
IsNumber word = IsNumeral 10 (without_leading_plus word) × (digits_value 10 (without_leading_plus word) < 2 ^ 32)

-- the word is this number; without a word it is 32
abbrev pub IsDepth : Option (List ℕ) → ℕ → Type 0
IsDepth None depth = depth ≡ 32
IsDepth (Some word) depth = IsNumber word × (depth ≡ digits_value 10 (without_leading_plus word))

abbrev pub IsNoDepth : Option (List ℕ) → Type 0
IsNoDepth None = ⊥
IsNoDepth (Some word) = IsNumber word → ⊥
