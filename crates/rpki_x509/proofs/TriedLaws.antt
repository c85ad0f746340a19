-- What a reader in place returns where a `?` ends it.
use Rattle.std.proofs.Common.{◌≡◌, ℕ, List, Result, Ok, Err, sym, subst}
use Rattle.std.specs.Prelude.{IsErr, IsErrAnd, MatchResult}
use Rattle.rpki_der.specs.Reading.{Refuses, SpellsNothing}
use Rattle.rpki_x509.specs.InPlace.{Gives, GivesAll}

pub tried-gives : {X V E : Type 0} (view : X → V) (G : V → List ℕ → Type 0) (F : E → Type 0) (s r : List ℕ)
    (x : Result X E)
    → IsErr x × IsErrAnd x F → Refuses G s → Gives view G s r x
tried-gives view G F s r (Ok x) h none = absurd h.1
tried-gives view G F s r (Err e) h none = none

pub tried-all : {X V E : Type 0} (view : X → V) (G : V → List ℕ → Type 0) (F : E → Type 0) (s : List ℕ) (x : Result X E)
    → IsErr x × IsErrAnd x F → SpellsNothing G s → GivesAll view G s x
tried-all view G F s (Ok x) h none = absurd h.1
tried-all view G F s (Err e) h none = none

-- a check of several things, of which one isn't so
pub tried-fault : {X E : Type 0} (P : X → Type 0) (F : E → Type 0) (d : E) (x : Result X E)
    → IsErr x × IsErrAnd x (λ e. e ≡ d) → F d → MatchResult x P F
tried-fault P F d (Ok x) h k = absurd h.1
tried-fault P F d (Err e) h k = subst F (sym h.1) k
