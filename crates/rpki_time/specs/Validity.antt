-- What contracts see of a validity period: its two times.
use Rattle.std.specs.Prelude.{◌≡◌, ℤ, ◌≤ℤ◌}
use Rattle.std.specs.Int.{int_min, int_max}
use Rattle.std.specs.declared.cmp.Ordering.{Ordering}
use Rattle.std.specs.Ordering.{int_cmp, ord_max, ord_min}
use Rattle.jiff.specs.Types.{DateTime}
use Rattle.jiff.specs.Words.{civil_nanos}
use Rattle.rpki_time.specs.Time.{cut, IsTimeYear}

-- from the first time to the second
pub record Period : Type 0 where
  pub not_before : DateTime
  pub not_after : DateTime

-- the period holds at the moment, both ends included (RFC 5280 4.1.2.5)
abbrev pub HoldsAt : Period → DateTime → Type 0
HoldsAt p m = (civil_nanos p.not_before ≤ℤ civil_nanos m) × (civil_nanos m ≤ℤ civil_nanos p.not_after)

-- the period goes from the one number of nanoseconds to the other
abbrev pub Spans : ℤ → ℤ → Period → Type 0
Spans start end p = (civil_nanos p.not_before ≡ start) × (civil_nanos p.not_after ≡ end)

-- two periods have the same ends
abbrev pub HaveSameEnds : Period → Period → Type 0
HaveSameEnds p q =
    (civil_nanos p.not_before ≡ civil_nanos q.not_before) × (civil_nanos p.not_after ≡ civil_nanos q.not_after)

-- the period from the earlier of the two moments to the later
abbrev pub SpansBetween : ℤ → ℤ → Period → Type 0
SpansBetween a b = Spans (int_min a b) (int_max a b)

-- from the later start to the earlier end
abbrev pub IsTrimmed : Period → Period → Period → Type 0
IsTrimmed p q =
    Spans (int_max (civil_nanos p.not_before) (civil_nanos q.not_before))
    (int_min (civil_nanos p.not_after) (civil_nanos q.not_after))

-- moments in their order
abbrev pub moment_cmp : DateTime → DateTime → Ordering
moment_cmp a b = int_cmp (civil_nanos a) (civil_nanos b)

-- the period from the later start to the earlier end
abbrev pub trimmed : Period → Period → Period
trimmed p q = record {
  not_before = ord_max moment_cmp p.not_before q.not_before;
  not_after = ord_min moment_cmp p.not_after q.not_after;
}

-- both times are of the years that times have
pub record AreTimeYears (p : Period) : Type 0 where
  pub not_before : IsTimeYear p.not_before.date.year
  pub not_after : IsTimeYear p.not_after.date.year

-- the period whose times have no parts of a second
abbrev pub cut_period : Period → Period
cut_period p = record { not_before = cut p.not_before; not_after = cut p.not_after }
