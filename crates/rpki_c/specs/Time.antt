-- What a status says of the octets of a time.
use Rattle.std.specs.Prelude.{◌≡◌, ◌⊎◌, ℕ, List}
use Rattle.rpki_der.specs.declared.error.DecodeError.{DecodeError}
use Rattle.jiff.specs.Types.{DateTime}
use Rattle.jiff.specs.Words.{civil_nanos}
use Rattle.rpki_time.specs.Time.{HasParts, seconds}
use Rattle.rpki_time.specs.TimeValue.{SpellsTime, IsTimeFault}
use Rattle.rpki_time.specs.Validity.{Period}
use Rattle.rpki_time.specs.PeriodValue.{SpellsPeriod, IsPeriodFault}
use Rattle.rpki_c.specs.declared.times.Period.{Period as Moments}
use Rattle.rpki_c.specs.declared.times.Moment.{Moment}
use Rattle.rpki_c.specs.Whole.{IsRefused, NeverMemory}

-- the error of a reader of one time and nothing else, and of one period and nothing else
abbrev pub IsWholeTimeFault : List ℕ → DecodeError → Type 0
IsWholeTimeFault = NeverMemory SpellsTime IsTimeFault

abbrev pub IsWholePeriodFault : List ℕ → DecodeError → Type 0
IsWholePeriodFault = NeverMemory SpellsPeriod IsPeriodFault

-- the time: this many seconds since 1970-01-01 00:00:00, exactly, and these parts of the calendar
pub record IsMoment (t : DateTime) (m : Moment) : Type 0 where
  pub since : civil_nanos t ≡ seconds m.seconds
  pub parts : HasParts m.year m.month m.day m.hour m.minute m.second t

-- the octets are a time, which is this moment
pub record HasMoment (s : List ℕ) (m : Moment) : Type 0 where
  pub time : DateTime
  pub spelled : SpellsTime time s
  pub moment : IsMoment time m

-- the octets are a period of validity, from the one moment to the other
pub record HasMoments (s : List ℕ) (m : Moments) : Type 0 where
  pub period : Period
  pub spelled : SpellsPeriod period s
  pub not_before : IsMoment period.not_before m.not_before
  pub not_after : IsMoment period.not_after m.not_after

-- Status 0: the octets are this time. Else the number of the error, and nothing is written.
abbrev pub IsTimeRead : List ℕ → ℕ → Moment → Moment → Type 0
IsTimeRead s status old new =
    ((status ≡ 0) × HasMoment s new) ⊎ (IsRefused SpellsTime IsWholeTimeFault s status × (new ≡ old))

-- Status 0: the octets are this period. Else the number of the error, and nothing is written.
abbrev pub IsValidityRead : List ℕ → ℕ → Moments → Moments → Type 0
IsValidityRead s status old new =
    ((status ≡ 0) × HasMoments s new) ⊎ (IsRefused SpellsPeriod IsWholePeriodFault s status × (new ≡ old))
