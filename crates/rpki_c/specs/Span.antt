-- What a status says of a value that is taken off the front of a span.
use Rattle.std.specs.Prelude.{◌≡◌, ◌⊎◌, ℕ}
use Rattle.rpki_der.specs.Prelude.{Format, Accepts, TakesNoMemory}
use Rattle.rpki_c.specs.declared.span.Span.{Span}
use Rattle.rpki_c.specs.Whole.{IsFrontRefused}

-- Status 0: a value of the format begins the octets of the span before, `says` says of it what is written, and the span
-- after has what follows it. Else the number of the error, and nothing is written.
abbrev pub IsTakenOff : {V O : Type 0} → Format V → (V → O → Type 0) → ℕ → Span → Span → O → O → Type 0
IsTakenOff {V} {O} F says status before after old new =
    ((status ≡ 0) × (x : V) × Accepts F.spells before.octets.now x after.octets.now × says x new)
    ⊎ (IsFrontRefused F.spells (TakesNoMemory F.fault) before.octets.now status × (after ≡ before) × (new ≡ old))
