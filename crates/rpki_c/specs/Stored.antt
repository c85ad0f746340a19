-- What is written to the caller's buffer, and how many octets it has.
use Rattle.std.specs.Prelude.{◌≡◌, ◌⊎◌, ◌<◌, ℕ, List, length}
use Rattle.rpki_text.specs.Buffer.{IsWritten}
use Rattle.rpki_c.specs.Status.{too_small}

-- the buffer is shorter than the octets: nothing was written, and their count is told
pub record IsTooSmall (octets old new : List ℕ) (told : ℕ) : Type 0 where
  pub short : length old < length octets
  pub buffer : new ≡ old
  pub size : told ≡ length octets

-- Status 0: the octets were written to the front of the buffer. 9: it is shorter, and nothing was written. Their count
-- is told in both cases.
abbrev pub IsStored : List ℕ → ℕ → List ℕ → List ℕ → ℕ → Type 0
IsStored octets status old new told =
    ((status ≡ 0) × IsWritten octets old new told) ⊎ ((status ≡ too_small) × IsTooSmall octets old new told)
