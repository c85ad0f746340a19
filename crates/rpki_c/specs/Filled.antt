-- Entries that are written to the front of the caller's array, and how many they are.
use Rattle.std.specs.Prelude.{◌≡◌, ◌⊎◌, ◌≤◌, ◌<◌, ◌++◌, ℕ, List, drop, length}
use Rattle.rpki_c.specs.Status.{too_small}

-- the entries begin the array, whose rest stays as it was; their count is told
pub record AreFilled {E : Type 0} (entries old new : List E) (told : ℕ) : Type 0 where
  pub room : length entries ≤ length old
  pub array : new ≡ entries ++ drop (length entries) old
  pub size : told ≡ length entries

-- the array has no room for the entries: nothing was written, and their count is told
pub record AreTooMany {E : Type 0} (entries old new : List E) (told : ℕ) : Type 0 where
  pub short : length old < length entries
  pub array : new ≡ old
  pub size : told ≡ length entries

-- Status 0: the entries were written to the front of the array. 9: it has no room for them, and nothing was written.
-- Their count is told in both cases.
abbrev pub IsFilled : {E : Type 0} → List E → ℕ → List E → List E → ℕ → Type 0
IsFilled entries status old new told =
    ((status ≡ 0) × AreFilled entries old new told) ⊎ ((status ≡ too_small) × AreTooMany entries old new told)

-- neither the array nor the count was written
pub record IsUnfilled {E : Type 0} (old new : List E) (before after : ℕ) : Type 0 where
  pub array : new ≡ old
  pub size : after ≡ before
