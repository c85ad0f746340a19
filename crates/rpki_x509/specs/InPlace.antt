-- What is read in place, without memory.
use Rattle.std.specs.Prelude.{◌≡◌, ◌++◌, ℕ, List, Option, Some, None, Result, Ok, Err}
use Rattle.rpki_der.specs.Reading.{Accepts, Refuses, SpellsNothing}
use Rattle.rpki_der.specs.Members.{IsValue, SpellsValue}

-- A reader of the grammar G found s and left r: Ok is the value at the front, and an error, whichever it is, says that
-- there is none.
abbrev pub Gives : {X V E : Type 0} → (X → V) → (V → List ℕ → Type 0) → List ℕ → List ℕ → Result X E → Type 0
Gives view G s r (Ok x) = Accepts G s (view x) r
Gives view G s r (Err e) = Refuses G s

-- The same of a reader of all of s.
abbrev pub GivesAll : {X V E : Type 0} → (X → V) → (V → List ℕ → Type 0) → List ℕ → Result X E → Type 0
GivesAll {X} {V} view G s (Ok x) = G (view x) s × ((w : V) → G w s → w ≡ view x)
GivesAll view G s (Err e) = SpellsNothing G s

-- A reader of a value by its header alone found s and left r: Some is the octets of the value, if that is one with
-- everything nested in it, and else no value begins s; and None says that none does.
abbrev pub TakesHeaded : {X : Type 0} → (X → List ℕ) → List ℕ → List ℕ → Option X → Type 0
TakesHeaded octets s r (Some x) = (s ≡ octets x ++ r) × ((IsValue (octets x) → ⊥) → Refuses SpellsValue s)
TakesHeaded octets s r None = Refuses SpellsValue s

-- The same of one that says nothing of the error: Some is the value of all of s, and None says that it has none.
abbrev pub IsWholeOf : {X V : Type 0} → (X → V) → (V → List ℕ → Type 0) → List ℕ → Option X → Type 0
IsWholeOf {X} {V} view G s (Some x) = G (view x) s × ((w : V) → G w s → w ≡ view x)
IsWholeOf view G s None = SpellsNothing G s
