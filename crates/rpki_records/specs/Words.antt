-- What readers of records are said of.
use Rattle.std.specs.Prelude.{ℕ, zero, suc, Bool, true, false, List, [], ◌∷◌, ◌++◌}
use Rattle.std.specs.Prelude.{Option, Some, None, Result, Ok, Err}
use Rattle.rpki_der.specs.Error.{error_number}
use Rattle.rpki_der.specs.declared.error.DecodeError.{DecodeError}

-- what a reader of all of the octets returned, in the words of a function
abbrev pub seen : {X V : Type 0} → (X → V) → Result X DecodeError → Result V ℕ
seen view (Ok x) = Ok (view x)
seen view (Err e) = Err (error_number e)

-- whether it is there
abbrev pub is_there : {V : Type 0} → Option V → Bool
is_there (Some v) = true
is_there None = false

-- what may be there, as a list
abbrev pub where_there : {A : Type 0} → Option A → List A
where_there None = []
where_there (Some x) = x ∷ []

-- the first n values of s, or as many as there are, where `given` says which is in front and what follows it
abbrev pub firsts : {A : Type 0} → (List ℕ → Option A × List ℕ) → ℕ → List ℕ → List A
firsts given zero s = []
firsts given (suc n) s = where_there (given s).0 ++ firsts given n (given s).1
