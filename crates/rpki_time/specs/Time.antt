-- What contracts see of a time: the civil date-time that jiff has, in the years 0 to 9999, and its nanoseconds.
use Rattle.std.specs.Prelude.{◌≡◌, ℕ, ◌<◌, ◌≤◌, ◌&&◌, ◌==◌, if◌then◌else◌, ℤ, pos, ◌+ℤ◌, ◌*ℤ◌, ◌<ℤ◌, ◌≤ℤ◌, List, Result}
use Rattle.std.specs.Prelude.{Ok}
use Rattle.std.proofs.Common.{lit<}
use Rattle.rpki_der.specs.declared.error.DecodeError.{DecodeError}
use Rattle.jiff.specs.Types.{DateTime}
use Rattle.jiff.specs.Words.{IsBetween, civil_nanos, days_in_month}

-- a year that times have
abbrev pub IsTimeYear : ℤ → Type 0
IsTimeYear y = IsBetween (pos 0) (pos 9999) y

-- some time has these nanoseconds since 1970-01-01 00:00:00: they lie in the years 0 to 9999
abbrev pub IsTimeNanos : ℤ → Type 0
IsTimeNanos n = (t : DateTime) × IsTimeYear t.date.year × (civil_nanos t ≡ n)

-- the date-time has these parts, and no part of a second
pub record HasParts (y : ℤ) (m d h min s : ℕ) (t : DateTime) : Type 0 where
  pub year : t.date.year ≡ y
  pub month : t.date.month ≡ m
  pub day : t.date.day ≡ d
  pub hour : t.time.hour ≡ h
  pub minute : t.time.minute ≡ min
  pub second : t.time.second ≡ s
  pub subsec : t.time.subsec_nanosecond ≡ 0

-- the calendar and a clock have these parts, in the years 0 to 9999
pub record ArePossible (y : ℤ) (m d h min s : ℕ) : Type 0 where
  pub year : IsTimeYear y
  pub month : (1 ≤ m) × (m ≤ 12)
  pub day : (1 ≤ d) × (d ≤ days_in_month y m)
  pub hour : h < 24
  pub minute : min < 60
  pub second : s < 60

-- s is the whole seconds since 1970-01-01 00:00:00, rounded towards the past
abbrev pub IsFloorSecond : ℤ → ℤ → Type 0
IsFloorSecond nanos s =
    ((s *ℤ pos 1_000_000_000) ≤ℤ nanos) × (nanos <ℤ ((s +ℤ pos 1) *ℤ pos 1_000_000_000))

-- the time without its parts of a second, which neither text has (RFC 5280 4.1.2.5.1, 4.1.2.5.2)
abbrev pub cut : DateTime → DateTime
cut t = record {
  date = t.date;
  time = record {
    hour = t.time.hour;
    minute = t.time.minute;
    second = t.time.second;
    subsec_nanosecond = 0;
    hour_in = t.time.hour_in;
    minute_in = t.time.minute_in;
    second_in = t.time.second_in;
    subsec_in = lit< tt;
  };
}

-- a reader returned the time without its parts of a second, and left the rest
abbrev pub ReadsCut : DateTime → List ℕ → Result DateTime DecodeError → List ℕ → Type 0
ReadsCut t rest result left = (result ≡ Ok (cut t)) × (left ≡ rest)

-- the day of the month, and 28 for 29 February
abbrev pub common_day : ℕ → ℕ → ℕ
common_day month day = if (month == 2) && (day == 29) then 28 else day

-- the same day that many years on, with 28 February for 29 February, without parts of a second
abbrev pub IsYearsOn : ℤ → DateTime → DateTime → Type 0
IsYearsOn years from to =
    HasParts (from.date.year +ℤ years) from.date.month (common_day from.date.month from.date.day)
    from.time.hour from.time.minute from.time.second to

-- the seconds in nanoseconds
abbrev pub seconds : ℤ → ℤ
seconds s = s *ℤ pos 1_000_000_000
