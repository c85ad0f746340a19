-- What is at a place of a text: what the private readers of texts find there.
use Rattle.std.specs.Prelude.{◌≡◌, ℕ, ◌+◌, ◌/◌, ◌%◌, ◌<◌, List, ℤ, slice_index}
use Rattle.jiff.specs.Types.{DateTime}
use Rattle.rpki_time.specs.Time.{IsTimeYear}

-- two decimal digits of the number are at the place
pub record IsPairAt (text : List ℕ) (at n : ℕ) : Type 0 where
  pub bound : n < 100
  pub tens : slice_index text at ≡ 48 + n / 10
  pub ones : slice_index text (at + 1) ≡ 48 + n % 10

-- month, day, hour, minute and second of the time are from the place on, then Z, and the year is y
pub record HasTailAt (text : List ℕ) (at : ℕ) (y : ℤ) (t : DateTime) : Type 0 where
  pub year : t.date.year ≡ y
  pub in_years : IsTimeYear y
  pub month : IsPairAt text at t.date.month
  pub day : IsPairAt text (at + 2) t.date.day
  pub hour : IsPairAt text (at + 4) t.time.hour
  pub minute : IsPairAt text (at + 6) t.time.minute
  pub second : IsPairAt text (at + 8) t.time.second
  pub zulu : slice_index text (at + 10) ≡ 90
  pub whole : t.time.subsec_nanosecond ≡ 0
