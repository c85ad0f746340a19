-- What a reader returns where a `?` ends it.
use Rattle.std.proofs.Common.{◌≡◌, ℕ, Bool, true, false, List, Result, Ok, Err, sym, subst}
use Rattle.std.specs.Prelude.{◌↔◌, IsErr, IsErrAnd, IfErr}
use Rattle.std.proofs.lemmas.Bool.{false≢true}
use Rattle.rpki_der.specs.declared.error.DecodeError.{DecodeError}
use Rattle.rpki_der.specs.Reading.{SpellsNothing, UnlessMemory, Refusal, Reads, Decodes}

-- a reader of a beginning
pub tried-refused : {X V : Type 0} (view : X → V) (G : V → List ℕ → Type 0) (K : List ℕ → DecodeError → Type 0)
    (s r : List ℕ) (d : DecodeError) (x : Result X DecodeError)
    → IsErr x × IsErrAnd x (λ e. e ≡ d) → Refusal G K s r d → Reads view G K s r x
tried-refused view G K s r d (Ok x) h k = absurd h.1
tried-refused view G K s r d (Err e) h k = subst (λ q. Refusal G K s r q) (sym h.1) k

-- a reader of the whole
pub tried-nothing : {X V : Type 0} (view : X → V) (G : V → List ℕ → Type 0) (K : List ℕ → DecodeError → Type 0)
    (s : List ℕ) (d : DecodeError) (x : Result X DecodeError)
    → IsErr x × IsErrAnd x (λ e. e ≡ d) → UnlessMemory d (SpellsNothing G s) × K s d → Decodes view G K s x
tried-nothing view G K s d (Ok x) h k = absurd h.1
tried-nothing view G K s d (Err e) h k = subst (λ q. UnlessMemory q (SpellsNothing G s) × K s q) (sym h.1) k

-- ---- a function that is no reader

-- what it says of its error
pub tried-error : {X E : Type 0} (P : E → Type 0) (d : E) (x : Result X E) → IsErr x × IsErrAnd x (λ e. e ≡ d) → P d
    → IfErr x P
tried-error P d (Ok x) h k = absurd h.1
tried-error P d (Err e) h k = subst P (sym h.1) k

-- the same of an error that is written out: an `Err` is not `IsOk`
pub refused-iff : (V : Type 0) → (V → ⊥) → (◌≡◌ {A = Bool} false true) ↔ V
refused-iff V none = (λ k. absurd (false≢true k), λ v. absurd (none v))
