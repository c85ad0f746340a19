-- Values that a reader passes over.
use Rattle.std.specs.Prelude.{List, ℕ}

-- some value is spelled
abbrev pub SpellsAny : {V : Type 0} → (V → List ℕ → Type 0) → Unit {0} → List ℕ → Type 0
SpellsAny {V} G x p = (v : V) × G v p
