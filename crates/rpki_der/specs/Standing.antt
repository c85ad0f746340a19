-- Octets that are in others.
use Rattle.std.specs.Prelude.{◌≡◌, ◌+◌, ◌++◌, ℕ, List, length}

-- s is in the source, and ends at this place
pub record StandsIn (source : List ℕ) (end : ℕ) (s : List ℕ) : Type 0 where
  pub before : List ℕ
  pub after : List ℕ
  pub parts : source ≡ before ++ (s ++ after)
  pub ends : length before + length s ≡ end

-- s ends with the part, and with what follows that
pub record StandsBefore (s part rest : List ℕ) : Type 0 where
  pub before : List ℕ
  pub parts : s ≡ before ++ (part ++ rest)
