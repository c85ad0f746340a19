-- Facts that one value meets at most.
use Rattle.std.specs.Prelude.{◌≡◌}

abbrev pub AtMostOne : {V : Type 0} → (V → Type 0) → Type 0
AtMostOne {V} P = (v w : V) → P v → P w → v ≡ w
