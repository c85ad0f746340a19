-- What a status says of octets that were rejected.
use Rattle.std.specs.Prelude.{◌≡◌, ◌⊎◌, ℕ, List, Result, Ok, Err, Option, Some, None}
use Rattle.rpki_der.specs.declared.error.DecodeError.{DecodeError}
use Rattle.rpki_der.specs.Error.{error_number}
use Rattle.rpki_der.specs.Reading.{SpellsNothing, UnlessMemory, Refusal}
pub use Rattle.rpki_der.specs.Reading.{NeverMemory}

-- All of the octets were read as one value: unless allocation failed they are not in the grammar. The status is the
-- number of the error, and K says which error it is.
pub record IsRefused {V : Type 0} (G : V → List ℕ → Type 0) (K : List ℕ → DecodeError → Type 0)
    (s : List ℕ) (status : ℕ) : Type 0 where
  pub error : DecodeError
  pub number : status ≡ error_number error
  pub nothing : UnlessMemory error (SpellsNothing G s)
  pub kind : K s error

-- The same, and unless allocation failed they are not as O says either.
pub record IsRefusedElse {V : Type 0} (O : List ℕ → Type 0) (G : V → List ℕ → Type 0)
    (K : List ℕ → DecodeError → Type 0) (s : List ℕ) (status : ℕ) : Type 0 where
  pub refused : IsRefused G K s status
  pub other : UnlessMemory refused.error (O s → ⊥)

-- A reader of the whole of s found a value of G, or None, which says that s is as O says.
abbrev pub DecodesElse : {X V : Type 0} → (List ℕ → Type 0) → (X → V) → (V → List ℕ → Type 0)
    → (List ℕ → DecodeError → Type 0) → List ℕ → Result (Option X) DecodeError → Type 0
DecodesElse {X} {V} O view G K s (Ok (Some x)) = (O s → ⊥) × (G (view x) s × ((w : V) → G w s → w ≡ view x))
DecodesElse O view G K s (Ok None) = O s
DecodesElse O view G K s (Err e) = UnlessMemory e (O s → ⊥) × (UnlessMemory e (SpellsNothing G s) × K s e)

-- The same where the value at the front was read.
pub record IsFrontRefused {V : Type 0} (G : V → List ℕ → Type 0) (K : List ℕ → DecodeError → Type 0)
    (s : List ℕ) (status : ℕ) : Type 0 where
  pub error : DecodeError
  pub number : status ≡ error_number error
  pub refusal : Refusal G K s s error

-- What a reader of all parts found, as a status and the error that is written: 0, and the error is left as it was; else
-- the numbers of the malformed part, and of what is wrong with it.
abbrev pub told_error : {V Q : Type 0} → (Q → ℕ) → ℕ → Result V (Q × ℕ) → ℕ × ℕ
told_error number old (Ok x) = (0, old)
told_error number old (Err q) = (number q.0, q.1)

-- Status 0: the octets were read, and this is said of what is written. Else the number of the malformed part, and
-- nothing is written.
abbrev pub IsRead : {O Q : Type 0} → (O → Type 0) → (Q → ℕ) → (Q → Type 0) → ℕ → O → O → Type 0
IsRead {O} {Q} has number wrong status old new =
    ((status ≡ 0) × has new) ⊎ ((q : Q) × (status ≡ number q) × wrong q × (new ≡ old))
