-- Readers as functions: from octets to a value and what follows it, or to the number of an error (error_number).
use Rattle.std.specs.Prelude.{◌≡◌, ℕ, ◌<◌, List, Result, Ok, Err, get_or, length}
use Rattle.rpki_der.specs.Error.{error_number}
use Rattle.rpki_der.specs.declared.error.DecodeError.{DecodeError}

abbrev pub Parser : Type 0 → Type 0
Parser V = List ℕ → Result (V × List ℕ) ℕ

-- what a reader returned, in the words of such a function, and what it left
abbrev pub parsed : {X V : Type 0} → (X → V) → Result X DecodeError → List ℕ → Result (V × List ℕ) ℕ
parsed view (Ok x) r = Ok (view x, r)
parsed view (Err e) r = Err (error_number e)

-- the same of a reader of the whole rest
abbrev pub kinds : {A : Type 0} → Result A DecodeError → Result A ℕ
kinds (Ok x) = Ok x
kinds (Err e) = Err (error_number e)

-- the rest of s by a reader of one value: less, and after an error all of it
abbrev pub Moves : {X E : Type 0} → List ℕ → List ℕ → Result X E → Type 0
Moves s r (Ok x) = length r < length s
Moves s r (Err e) = r ≡ s

-- in sequence: the first error ends all
abbrev pub bind : {A B E : Type 0} → Result A E → (A → Result B E) → Result B E
bind (Ok x) K = K x
bind (Err e) K = Err e

-- each is an octet
abbrev pub AreBytes : List ℕ → Type 0
AreBytes s = (i : ℕ) → get_or s i 0 < 256
