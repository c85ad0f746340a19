-- The two texts of a time: UTC time, YYMMDDHHMMSSZ, and generalized time, YYYYMMDDHHMMSSZ (X.690 11.7, 11.8;
-- RFC 5280 4.1.2.5.1, 4.1.2.5.2).
use Rattle.std.specs.Prelude.{◌≡◌, not, ◌&&◌, Bool, int_lt, ℕ, ◌+◌, ◌/◌, ◌%◌, List, [], ◌∷◌, ◌++◌, ℤ, pos, unsigned_abs}
use Rattle.jiff.specs.Types.{DateTime}
use Rattle.jiff.specs.Words.{IsBetween}
use Rattle.rpki_time.specs.Time.{IsTimeYear}

-- a number below 100 in two decimal digits
abbrev pub two_digits : ℕ → List ℕ
two_digits n = (48 + n / 10) ∷ (48 + n % 10) ∷ []

-- month, day, hour, minute and second in two digits each, and Z
abbrev pub tail_text : DateTime → List ℕ
tail_text t =
    two_digits t.date.month ++ (two_digits t.date.day ++ (two_digits t.time.hour
    ++ (two_digits t.time.minute ++ (two_digits t.time.second ++ 90 ∷ []))))

-- the year, which is not negative
abbrev pub year_number : DateTime → ℕ
year_number t = unsigned_abs t.date.year

-- the year in two digits, and the rest
abbrev pub utc_text : DateTime → List ℕ
utc_text t = two_digits (year_number t % 100) ++ tail_text t

-- the year in four digits, and the rest
abbrev pub generalized_text : DateTime → List ℕ
generalized_text t = two_digits (year_number t / 100) ++ (two_digits (year_number t % 100) ++ tail_text t)

-- the years that UTC time has: two digits from 50 on are of 19xx, and those below 50 of 20xx (RFC 5280 4.1.2.5.1)
abbrev pub IsUtcYear : ℤ → Type 0
IsUtcYear y = IsBetween (pos 1950) (pos 2049) y

-- the same as a test
abbrev pub is_utc_year : ℤ → Bool
is_utc_year y = not (int_lt y (pos 1950)) && not (int_lt (pos 2049) y)

-- the UTC text reads as the time: one of the years 1950 to 2049, without parts of a second
pub record ReadsAsUtc (text : List ℕ) (t : DateTime) : Type 0 where
  pub spelled : text ≡ utc_text t
  pub year : IsUtcYear t.date.year
  pub whole : t.time.subsec_nanosecond ≡ 0

-- the generalized text reads as the time: one of the years 0 to 9999, without parts of a second
pub record ReadsAsGeneralized (text : List ℕ) (t : DateTime) : Type 0 where
  pub spelled : text ≡ generalized_text t
  pub year : IsTimeYear t.date.year
  pub whole : t.time.subsec_nanosecond ≡ 0
