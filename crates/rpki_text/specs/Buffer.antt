-- What is written to the front of a buffer.
use Rattle.std.specs.Prelude.{◌≡◌, ◌≤◌, ◌++◌, ℕ, List, drop, length}

-- the octets begin the buffer, whose rest stays as it was; their count is returned
pub record IsWritten (octets old new : List ℕ) (written : ℕ) : Type 0 where
  pub room : length octets ≤ length old
  pub buffer : new ≡ octets ++ drop (length octets) old
  pub size : written ≡ length octets
