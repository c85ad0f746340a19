-- What is published.
use Rattle.std.specs.Prelude.{◌≡◌, ℕ, List, Option, Some}
use Rattle.rpki_text.specs.RsyncText.{RsyncUri}

-- At each rsync URI one object, or none; and what was fetched from a URI of a locator, by its text (RFC 8630 3). An
-- rsync URI is what its text stands for, so that its scheme and its authority have no case (RFC 5781 2).
pub record Published : Type 0 where
  pub objects : RsyncUri → Option (List ℕ)
  pub anchors : List ℕ → Option (List ℕ)

-- a fact of what is published, where that is known
abbrev pub Where : Option Published → (Published → Type 0) → Type 0
Where known P = (published : Published) → known ≡ Some published → P published
