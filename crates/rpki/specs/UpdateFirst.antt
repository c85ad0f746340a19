-- An option that keeps the first value that it is given.
use Rattle.std.specs.Prelude.{◌≡◌, Option, Some, None, Result, Ok, Err}

-- what was there, or else what is given
abbrev pub first_of : {T : Type 0} → Option T → Option T → Option T
first_of (Some old) given = Some old
first_of None given = given

-- what is there, and what is returned, after an operation has returned x
abbrev pub KeepsFirst : {T E : Type 0} → Option T → Option T → Result (Option T) E → Result (Unit {0}) E → Type 0
KeepsFirst old new (Ok given) answer = (new ≡ first_of old given) × (answer ≡ Ok tt)
KeepsFirst old new (Err e) answer = (new ≡ old) × (answer ≡ Err e)

-- the operation returned a result, and the option kept the first value
abbrev pub UpdatesFirst : {T E : Type 0} → (Result (Option T) E → Type 0) → Option T → Option T → Result (Unit {0}) E
    → Type 0
UpdatesFirst {T} {E} answers old new answer = (x : Result (Option T) E) × answers x × KeepsFirst old new x answer
