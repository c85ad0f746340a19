-- Names that are borrowed.
use Rattle.std.specs.Prelude.{ℕ, Bool, List, bytes_eq}
use Rattle.std.specs.List.{IsDistinct}
use denote.Bor.{Bor}

-- two have the same octets
abbrev pub are_same : Bor (List ℕ) → Bor (List ℕ) → Bool
are_same x y = bytes_eq x.now y.now

-- no two have
abbrev pub Differ : List (Bor (List ℕ)) → Type 0
Differ = IsDistinct are_same
