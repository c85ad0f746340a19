-- What the readers of the two texts find, and what the texts hold.
use Rattle.std.proofs.Common.{◌≡◌, ◌⊎◌, Bool, true, false, ℕ, ◌+◌, ◌*◌, ◌/◌, ◌%◌, ◌<◌, ◌≤◌, inl, inr, List, length}
use Rattle.std.proofs.Common.{Option, Some, None, IfSome, IfNone, ℤ, pos, negsuc, ◌≤ℤ◌, unsigned_abs, arith, refl, sym}
use Rattle.std.proofs.Common.{ap, ◌∙◌, subst}
use Rattle.std.proofs.lemmas.Int.{ints}
use Rattle.std.proofs.lemmas.Slice.Eq.{text_from_reads}
use Rattle.jiff.specs.Types.{DateTime}
use Rattle.jiff.specs.Words.{days_in_month, time_nanos}
use Rattle.jiff.proofs.Family.{epoch_day_same, same_datetime, civil_nanos-parts}
use Rattle.jiff.proofs.SpanFacts.{signed_arith}
use Rattle.rpki_time.specs.Time.{IsTimeYear, cut}
use Rattle.rpki_time.specs.TimeText.{utc_text, generalized_text, year_number, IsUtcYear, is_utc_year, ReadsAsUtc}
use Rattle.rpki_time.specs.TimeText.{ReadsAsGeneralized}
use Rattle.rpki_time.specs.TextPlaces.{IsPairAt, HasTailAt}

-- two digits write one number
pub pair-unique : (s : List ℕ) (at m n : ℕ) → IsPairAt s at m → IsPairAt s at n → m ≡ n
pair-unique s at m n p q = omega arith

-- the day of a month is below 100
day-small : (t : DateTime) → t.date.day < 100
day-small t =
    let in_month = t.date.day_in in let long : days_in_month t.date.year t.date.month ≤ 31 = grind arith in omega arith

month-small : (t : DateTime) → t.date.month < 100
month-small t = omega (arith, t.date.month_in)

-- what follows the year of a time's text
utc-tail : (t : DateTime) (y : ℤ) → t.date.year ≡ y → IsTimeYear y → t.time.subsec_nanosecond ≡ 0
    → HasTailAt (utc_text t) 2 y t
utc-tail t y e in_years whole = record {
  year = e;
  in_years = in_years;
  month = record { bound = month-small t; tens = refl; ones = refl };
  day = record { bound = day-small t; tens = refl; ones = refl };
  hour = record { bound = omega (arith, t.time.hour_in); tens = refl; ones = refl };
  minute = record { bound = omega (arith, t.time.minute_in); tens = refl; ones = refl };
  second = record { bound = omega (arith, t.time.second_in); tens = refl; ones = refl };
  zulu = refl;
  whole = whole;
}

generalized-tail : (t : DateTime) (y : ℤ) → t.date.year ≡ y → IsTimeYear y → t.time.subsec_nanosecond ≡ 0
    → HasTailAt (generalized_text t) 4 y t
generalized-tail t y e in_years whole = record {
  year = e;
  in_years = in_years;
  month = record { bound = month-small t; tens = refl; ones = refl };
  day = record { bound = day-small t; tens = refl; ones = refl };
  hour = record { bound = omega (arith, t.time.hour_in); tens = refl; ones = refl };
  minute = record { bound = omega (arith, t.time.minute_in); tens = refl; ones = refl };
  second = record { bound = omega (arith, t.time.second_in); tens = refl; ones = refl };
  zulu = refl;
  whole = whole;
}

nonnegative : (z : ℤ) → pos 0 ≤ℤ z → z ≡ pos (unsigned_abs z)
nonnegative (pos n) h = refl
nonnegative (negsuc n) h = absurd (omega (arith, signed_arith))

-- the full year that the two digits of UTC time stand for
pub record IsFullYear (short y : ℕ) : Type 0 where
  pub low : 1950 ≤ y
  pub high : y ≤ 2049
  pub digits : y % 100 ≡ short

pub utc-read : (s : List ℕ) (short y : ℕ) (t : DateTime) → length s ≡ 13 → IsPairAt s 0 short → IsFullYear short y
    → HasTailAt s 2 (pos y) t → ReadsAsUtc s t
utc-read s short y t len p full h =
    let whole_year : year_number t ≡ y = ap unsigned_abs h.year in
    let number : year_number t % 100 ≡ short = ap (λ (n : ℕ). n % 100) whole_year ∙ full.digits in
    let q : IsPairAt s 0 (year_number t % 100) = subst (λ (n : ℕ). IsPairAt s 0 n) (sym number) p in
    let in-window : IsUtcYear (pos y) = omega (arith, signed_arith, full.low, full.high) in
    record {
      spelled = text_from_reads s (utc_text t) len (
        q.tens,
        (
          q.ones,
          (
            h.month.tens,
            (
              h.month.ones,
              (
                h.day.tens,
                (
                  h.day.ones,
                  (
                    h.hour.tens,
                    (h.hour.ones, (h.minute.tens, (h.minute.ones, (h.second.tens, (h.second.ones, (h.zulu, tt)))))),
                  ),
                ),
              ),
            ),
          ),
        ),
      );
      year = subst IsUtcYear (sym h.year) in-window;
      whole = h.whole;
    }

pub utc-tail_at : (s : List ℕ) (short y : ℕ) (t : DateTime) → IsPairAt s 0 short → IsFullYear short y → ReadsAsUtc s t
    → HasTailAt s 2 (pos y) t
utc-tail_at s short y t p full r =
    let number = year_number t in
    let first : IsPairAt (utc_text t) 0 (number % 100) = record { bound = omega arith; tens = refl; ones = refl } in
    let same : short ≡ number % 100 = pair-unique s 0 _ _ p
    (subst (λ (x : List ℕ). IsPairAt x 0 (number % 100)) (sym r.spelled) first) in
    let is : t.date.year ≡ pos number = nonnegative t.date.year (omega (arith, signed_arith, r.year)) in
    let in-window : IsUtcYear (pos number) = subst IsUtcYear is r.year in
    let equal : number ≡ y = omega (arith, signed_arith, full.low, full.high, full.digits, in-window) in
    let in_years : IsTimeYear (pos y) = omega (arith, signed_arith, full.low, full.high) in
    subst (λ (x : List ℕ). HasTailAt x 2 (pos y) t) (sym r.spelled)
    (utc-tail t (pos y) (is ∙ ap pos equal) in_years r.whole)

pub generalized-read : (s : List ℕ) (century short : ℕ) (t : DateTime) → length s ≡ 15 → short < 100
    → IsPairAt s 0 century → IsPairAt s 2 short → HasTailAt s 4 (pos (100 * century + short)) t → ReadsAsGeneralized s t
generalized-read s century short t len small p q h =
    let whole_year : year_number t ≡ 100 * century + short = ap unsigned_abs h.year in
    let upper : year_number t / 100 ≡ century = ap (λ (n : ℕ). n / 100) whole_year ∙ omega arith in
    let lower : year_number t % 100 ≡ short = ap (λ (n : ℕ). n % 100) whole_year ∙ omega arith in
    let a : IsPairAt s 0 (year_number t / 100) = subst (λ (n : ℕ). IsPairAt s 0 n) (sym upper) p in
    let b : IsPairAt s 2 (year_number t % 100) = subst (λ (n : ℕ). IsPairAt s 2 n) (sym lower) q in
    record {
      spelled = text_from_reads s (generalized_text t) len (
        a.tens,
        (
          a.ones,
          (
            b.tens,
            (
              b.ones,
              (
                h.month.tens,
                (
                  h.month.ones,
                  (
                    h.day.tens,
                    (
                      h.day.ones,
                      (
                        h.hour.tens,
                        (h.hour.ones, (h.minute.tens, (h.minute.ones, (h.second.tens, (h.second.ones, (h.zulu, tt)))))),
                      ),
                    ),
                  ),
                ),
              ),
            ),
          ),
        ),
      );
      year = subst IsTimeYear (sym h.year) h.in_years;
      whole = h.whole;
    }

pub generalized-tail_at : (s : List ℕ) (century short : ℕ) (t : DateTime) → IsPairAt s 0 century → IsPairAt s 2 short
    → ReadsAsGeneralized s t → HasTailAt s 4 (pos (100 * century + short)) t
generalized-tail_at s century short t p q r =
    let number = year_number t in
    let is : t.date.year ≡ pos number = nonnegative t.date.year r.year.0 in
    let in_years : IsTimeYear (pos number) = subst IsTimeYear is r.year in
    let bound : number ≤ 9999 = omega (arith, signed_arith, in_years) in
    let a : IsPairAt (generalized_text t) 0 (number / 100) = record { bound = omega arith; tens = refl; ones = refl } in
    let b : IsPairAt (generalized_text t) 2 (number % 100) = record { bound = omega arith; tens = refl; ones = refl } in
    let upper : century ≡ number / 100 = pair-unique s 0 _ _ p
    (subst (λ (x : List ℕ). IsPairAt x 0 (number / 100)) (sym r.spelled) a) in
    let lower : short ≡ number % 100 = pair-unique s 2 _ _ q
    (subst (λ (x : List ℕ). IsPairAt x 2 (number % 100)) (sym r.spelled) b) in
    let equal : number ≡ 100 * century + short = omega arith in
    subst (λ (x : List ℕ). HasTailAt x 4 (pos (100 * century + short)) t) (sym r.spelled)
    (generalized-tail t _ (is ∙ ap pos equal) (subst (λ (n : ℕ). IsTimeYear (pos n)) equal in_years) r.whole)

-- what is read through another reading, and what is not
pub some-read : (r : Option DateTime) (P Q : DateTime → Type 0) → ((t : DateTime) → P t → Q t) → IfSome r P → IfSome r Q
some-read None P Q f h = tt
some-read (Some t) P Q f h = f t h

pub none-read : (r : Option DateTime) (P Q : DateTime → Type 0) → ((t : DateTime) → Q t → P t)
    → IfNone r ((t : DateTime) → ¬ (P t)) → IfNone r ((t : DateTime) → ¬ (Q t))
none-read None P Q f h = λ t q. h t (f t q)
none-read (Some t) P Q f h = tt

-- two times with the same date and clock are one
same-time : (t u : DateTime) → t.date.year ≡ u.date.year → t.date.month ≡ u.date.month → t.date.day ≡ u.date.day
    → t.time.hour ≡ u.time.hour → t.time.minute ≡ u.time.minute → t.time.second ≡ u.time.second
    → t.time.subsec_nanosecond ≡ u.time.subsec_nanosecond → t ≡ u
same-time t u y m d h min s n =
    let days = epoch_day_same t.date u.date y m d in
    let clock : time_nanos t.time ≡ time_nanos u.time = rw (h, min, s, n) refl in
    same_datetime t u (civil_nanos-parts t ∙ rw (days, clock) (sym (civil_nanos-parts u)))

tail-unique : (s : List ℕ) (at : ℕ) (y : ℤ) (t u : DateTime) → HasTailAt s at y t → HasTailAt s at y u → t ≡ u
tail-unique s at y t u a b =
    same-time t u (a.year ∙ sym b.year) (pair-unique s _ _ _ a.month b.month) (pair-unique s _ _ _ a.day b.day)
    (pair-unique s _ _ _ a.hour b.hour) (pair-unique s _ _ _ a.minute b.minute) (pair-unique s _ _ _ a.second b.second)
    (a.whole ∙ sym b.whole)

-- a text reads as at most one time
pub generalized-unique : (s : List ℕ) (t u : DateTime) → ReadsAsGeneralized s t → ReadsAsGeneralized s u → t ≡ u
generalized-unique s t u a b =
    let number = year_number t in
    let is : t.date.year ≡ pos number = nonnegative t.date.year a.year.0 in
    let in_years : IsTimeYear (pos number) = subst IsTimeYear is a.year in
    let bound : number ≤ 9999 = omega (arith, signed_arith, in_years) in
    let upper : IsPairAt (generalized_text t) 0 (number / 100) = record
    { bound = omega arith; tens = refl; ones = refl } in
    let lower : IsPairAt (generalized_text t) 2 (number % 100) = record
    { bound = omega arith; tens = refl; ones = refl } in
    let p = subst (λ (x : List ℕ). IsPairAt x 0 (number / 100)) (sym a.spelled) upper in
    let q = subst (λ (x : List ℕ). IsPairAt x 2 (number % 100)) (sym a.spelled) lower in
    tail-unique s 4 _ t u (generalized-tail_at s _ _ t p q a) (generalized-tail_at s _ _ u p q b)

pub utc-unique : (s : List ℕ) (t u : DateTime) → ReadsAsUtc s t → ReadsAsUtc s u → t ≡ u
utc-unique s t u a b =
    let number = year_number t in
    let is : t.date.year ≡ pos number = nonnegative t.date.year (omega (arith, signed_arith, a.year)) in
    let in-window : IsUtcYear (pos number) = subst IsUtcYear is a.year in
    let full : IsFullYear (number % 100) number = record
    { low = omega (arith, signed_arith, in-window); high = omega (arith, signed_arith, in-window); digits = refl } in
    let first : IsPairAt (utc_text t) 0 (number % 100) = record { bound = omega arith; tens = refl; ones = refl } in
    let p = subst (λ (x : List ℕ). IsPairAt x 0 (number % 100)) (sym a.spelled) first in
    tail-unique s 2 _ t u (utc-tail_at s _ _ t p full a) (utc-tail_at s _ _ u p full b)

-- what is written reads as the time without parts of a second
pub generalized-reads-cut : (t : DateTime) → IsTimeYear t.date.year → ReadsAsGeneralized (generalized_text t) (cut t)
generalized-reads-cut t y = record { spelled = refl; year = y; whole = refl }

pub utc-reads-cut : (t : DateTime) → IsUtcYear t.date.year → ReadsAsUtc (utc_text t) (cut t)
utc-reads-cut t y = record { spelled = refl; year = y; whole = refl }

-- the test says whether the year is one of UTC time
pub in-window : (y : ℤ) → is_utc_year y ≡ true → IsUtcYear y
in-window y e = grind (arith, ints)

out-of-window : (y : ℤ) → is_utc_year y ≡ false → IsUtcYear y → ⊥
out-of-window y e h = grind (arith, ints)

pub is-in-window : (y : ℤ) → IsUtcYear y → is_utc_year y ≡ true
is-in-window y h = elim (bool_cases (is_utc_year y)) [ inl e ↦ e | inr e ↦ absurd (out-of-window y e h) ] where
  bool_cases : (b : Bool) → (b ≡ true) ⊎ (b ≡ false)
  bool_cases true = inl refl
  bool_cases false = inr refl
