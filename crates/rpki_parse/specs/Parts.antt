-- Readers as functions, whose error names the malformed part beside what is wrong with it.
use Rattle.std.specs.Prelude.{◌≡◌, ℕ, Bool, IsTrue, Result, Ok, Err}
use Rattle.rpki_der.specs.Error.{error_number}
use Rattle.rpki_der.specs.declared.error.DecodeError.{DecodeError}
use Rattle.rpki_parse.specs.declared.malformed.Malformed.{Malformed}

abbrev pub malformed : {P : Type 0} → P → DecodeError → Malformed P
malformed part error = record { part = part; error = error }

-- an error is of this part
abbrev pub at_part : {A P : Type 0} → P → Result A ℕ → Result A (P × ℕ)
at_part p (Ok x) = Ok x
at_part p (Err e) = Err (p, e)

-- what a reader of the whole octets returned, in the words of such a function
abbrev pub told : {X V P : Type 0} → (X → V) → Result X (Malformed P) → Result V (P × ℕ)
told view (Ok x) = Ok (view x)
told view (Err e) = Err (e.part, error_number e.error)

-- two errors have parts that are equal, and so is what is wrong with these
abbrev pub HaveSameParts : {P : Type 0} → (P → P → Bool) → (DecodeError → DecodeError → Bool) → Malformed P
    → Malformed P → Type 0
HaveSameParts same alike p q = IsTrue (same p.part q.part) × IsTrue (alike p.error q.error)
