-- What is kept of what is found: lists that are added to.
use Rattle.std.specs.Prelude.{◌↔◌, ◌⊎◌, List}
use Rattle.std.specs.List.{Contains}

-- exactly what P is true of is added
abbrev pub Adds : {V : Type 0} → (V → Type 0) → List V → List V → Type 0
Adds {V} P old new = (v : V) → Contains new v ↔ (Contains old v ⊎ P v)

-- of one of these nodes R is true
abbrev pub Among : {N V : Type 0} → (N → Type 0) → (N → V → Type 0) → V → Type 0
Among {N} Level R v = (x : N) × Level x × R x v
