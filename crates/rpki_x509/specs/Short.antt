-- Values whose header is two octets, of which the second is a length below 128 (X.690 8.1.2.2, 8.1.3.4).
use Rattle.std.specs.Prelude.{◌≡◌, ◌<◌, ◌++◌, ℕ, List, ◌∷◌, length}

-- s begins with this octet, the length of these contents, and the contents; the rest follows
pub record IsShort (first : ℕ) (s contents rest : List ℕ) : Type 0 where
  pub parts : s ≡ first ∷ length contents ∷ (contents ++ rest)
  pub few : length contents < 128
