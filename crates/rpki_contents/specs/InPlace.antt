-- Values at the front of octets, in place.
use Rattle.std.specs.Prelude.{ℕ, List}
use Rattle.rpki_der.specs.Prelude.{Accepts}

-- a value of the grammar is at the front of s, and r follows it
abbrev pub Follows : {V : Type 0} → (V → List ℕ → Type 0) → List ℕ → List ℕ → Type 0
Follows {V} G s r = (v : V) × Accepts G s v r
