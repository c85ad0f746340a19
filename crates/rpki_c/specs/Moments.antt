-- Moments, periods of validity, and times that are counted.
use Rattle.std.specs.Prelude.{◌≡◌, ◌⊎◌, ℕ, ℤ, List, ◌+ℤ◌, ◌≤ℤ◌, ◌<ℤ◌, pos}
use Rattle.jiff.specs.Types.{DateTime}
use Rattle.jiff.specs.Words.{civil_nanos}
use Rattle.rpki_time.specs.Time.{IsTimeNanos, seconds}
use Rattle.rpki_time.specs.TimeValue.{utc_octets, generalized_octets}
use Rattle.rpki_c.specs.declared.times.Moment.{Moment}
use Rattle.rpki_c.specs.Status.{no_answer, content, too_new, too_old}
use Rattle.rpki_c.specs.Uri.{IsUnwritten}
use Rattle.rpki_c.specs.Time.{IsMoment}
use Rattle.rpki_c.specs.Made.{IsMade, IsPossible, IsTimeOf}
use Rattle.rpki_time.specs.Validity.{Period, HoldsAt, IsTrimmed}
use Rattle.rpki_time.specs.PeriodValue.{period_octets}
use Rattle.rpki_c.specs.declared.times.Period.{Period as Moments}

-- ---- What is made of a moment in a form that is chosen, and the moment so many seconds on

-- Where there is such a time, its value as UTC time is made. Else the status is 5, and nothing was written.
abbrev pub IsUtcWritten : Moment → ℕ → List ℕ → List ℕ → ℕ → ℕ → Type 0
IsUtcWritten m status old new before after =
    ((t : DateTime) × IsTimeOf m t × IsMade (utc_octets t) status old new before after)
    ⊎ ((IsPossible m → ⊥) × (status ≡ content) × IsUnwritten old new before after)

-- the same of its value as generalized time
abbrev pub IsGeneralizedWritten : Moment → ℕ → List ℕ → List ℕ → ℕ → ℕ → Type 0
IsGeneralizedWritten m status old new before after =
    ((t : DateTime) × IsTimeOf m t × IsMade (generalized_octets t) status old new before after)
    ⊎ ((IsPossible m → ⊥) × (status ≡ content) × IsUnwritten old new before after)

-- Status 0: this is the moment so many seconds on. 5: there is no such moment as the one that was given. 10: its year
-- is not of 0 to 9999. Unless it is 0, nothing was written.
abbrev pub IsSecondsLater : Moment → ℤ → ℕ → Moment → Moment → Type 0
IsSecondsLater m secs status old new =
    ((t : DateTime) × IsTimeOf m t
    × (((status ≡ 0) × ((u : DateTime) × (civil_nanos u ≡ civil_nanos t +ℤ seconds secs) × IsMoment u new))
    ⊎ ((status ≡ no_answer) × (IsTimeNanos (civil_nanos t +ℤ seconds secs) → ⊥) × (new ≡ old))))
    ⊎ ((IsPossible m → ⊥) × (status ≡ content) × (new ≡ old))

-- ---- What a status says of periods of validity that are given by their moments (RFC 5280 4.1.2.5)

-- the years 0 to 9999 have both moments
abbrev pub ArePossible : Moments → Type 0
ArePossible p = IsPossible p.not_before × IsPossible p.not_after

-- the period from the time of the one moment to that of the other
pub record IsPeriodOf (p : Moments) (q : Period) : Type 0 where
  pub not_before : IsTimeOf p.not_before q.not_before
  pub not_after : IsTimeOf p.not_after q.not_after

-- Where there are such times, the value of the period is made. Else the status is 5, and nothing was written.
abbrev pub IsValidityWritten : Moments → ℕ → List ℕ → List ℕ → ℕ → ℕ → Type 0
IsValidityWritten p status old new before after =
    ((q : Period) × IsPeriodOf p q × IsMade (period_octets q) status old new before after)
    ⊎ ((ArePossible p → ⊥) × (status ≡ content) × IsUnwritten old new before after)

-- Of a period and a time. Status 0: the period holds. 50: it begins after the time. 51: it ended before the time.
abbrev pub IsToldOf : Period → DateTime → ℕ → Type 0
IsToldOf q t status =
    ((status ≡ 0) × HoldsAt q t)
    ⊎ ((status ≡ too_new) × (civil_nanos t <ℤ civil_nanos q.not_before))
    ⊎ ((status ≡ too_old) × (civil_nanos q.not_before ≤ℤ civil_nanos t) × (civil_nanos q.not_after <ℤ civil_nanos t))

-- Where there are such times, the status tells whether the period holds. Else it is 5.
abbrev pub IsHeldAt : Moments → Moment → ℕ → Type 0
IsHeldAt p m status =
    ((q : Period) × (t : DateTime) × IsPeriodOf p q × IsTimeOf m t × IsToldOf q t status)
    ⊎ ((ArePossible p → IsPossible m → ⊥) × (status ≡ content))

-- the moments of the period
pub record AreMomentsOf (q : Period) (p : Moments) : Type 0 where
  pub not_before : IsMoment q.not_before p.not_before
  pub not_after : IsMoment q.not_after p.not_after

-- Status 0: this is the period that holds exactly where both do. 5: there is no such time as one of the moments, and
-- nothing was written.
abbrev pub IsTrimmedTo : Moments → Moments → ℕ → Moments → Moments → Type 0
IsTrimmedTo p r status old new =
    ((q : Period) × (s : Period) × (u : Period) × IsPeriodOf p q × IsPeriodOf r s × (status ≡ 0)
    × IsTrimmed q s u × AreMomentsOf u new)
    ⊎ ((ArePossible p → ArePossible r → ⊥) × (status ≡ content) × (new ≡ old))

-- ---- What a status says of a moment that is told by its seconds since 1970

-- 1970-01-01 00:00:00
abbrev pub epoch : Moment
epoch = record { seconds = pos 0; year = pos 1970; month = 1; day = 1; hour = 0; minute = 0; second = 0 }

-- the moment so many seconds after that
abbrev pub IsSecondsOf : ℤ → ℕ → Moment → Moment → Type 0
IsSecondsOf seconds status old new = IsSecondsLater epoch seconds status old new
