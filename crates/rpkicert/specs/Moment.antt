-- The moment that is asked for: one that is written, or that of the host's clock.
use Rattle.std.specs.Prelude.{◌≡◌, ℕ, Bool, true, false, if◌then◌else◌, List, codes, bytes_eq, Option, Some, None}
use Rattle.std.specs.Prelude.{IfSome, Result, Ok, IsOkAnd, ℤ, pos}
use Rattle.jiff.specs.Types.{DateTime}
use Rattle.jiff.specs.Words.{civil_nanos, parse_timestamp, Error}
use Rattle.rpki_time.specs.Time.{IsTimeNanos}

-- the moment that a clock has, or None where it can't be read, or has none of the years 0 to 9999; or nothing is known
-- of it
abbrev pub Clock : Type 0
Clock = Option (Option DateTime)

-- the word for the moment of the clock
abbrev pub is_now : List ℕ → Bool
is_now word = bytes_eq word (codes "now")

-- 9999-12-31T23:59:59Z, in nanoseconds since 1970-01-01 00:00:00 in UTC
abbrev pub last_moment : ℤ
last_moment = pos 253_402_300_799_000_000_000

-- The moment that a text names: as jiff reads an instant (RFC 3339 5.6); and the one that RFC 5280 4.1.2.5 names for no
-- well-defined expiration, which jiff has not.
abbrev pub moment_of : List ℕ → Result ℤ Error
moment_of text = if bytes_eq text (codes "9999-12-31T23:59:59Z") then Ok last_moment else parse_timestamp text

-- ---- which moment a word names

-- the moment of the clock, where anything is known of that; or the one that the word is the text of, whatever the clock
-- has
abbrev pub NamesBy : (now : Bool) → Clock → List ℕ → DateTime → Type 0
NamesBy true clock word t = IfSome clock (λ at. at ≡ Some t)
NamesBy false clock word t = moment_of word ≡ Ok (civil_nanos t)

abbrev pub NamesMoment : Clock → List ℕ → DateTime → Type 0
NamesMoment clock word t = NamesBy (is_now word) clock word t

-- the clock has no moment; or the word is the text of none of the years 0 to 9999
abbrev pub NamesNoneBy : (now : Bool) → Clock → List ℕ → Type 0
NamesNoneBy true clock word = IfSome clock (λ at. at ≡ None)
NamesNoneBy false clock word = IsOkAnd (moment_of word) IsTimeNanos → ⊥

abbrev pub NamesNoMoment : Clock → List ℕ → Type 0
NamesNoMoment clock word = NamesNoneBy (is_now word) clock word

-- the word names this moment; without a word there is none
abbrev pub IsMoment : Clock → Option (List ℕ) → Option DateTime → Type 0
IsMoment clock None None = Unit {0}
IsMoment clock None (Some t) = ⊥
IsMoment clock (Some word) None = ⊥
IsMoment clock (Some word) (Some t) = NamesMoment clock word t
