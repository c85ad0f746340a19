-- Values of one type, in sequence, that lead from one state to the next: attributes and extensions, each kind
-- once, in any order (X.690 8.10, 8.12).
use Rattle.std.specs.Prelude.{◌≡◌, ◌≢◌, ◌<◌, ◌≤◌, ℕ, List, [], ◌∷◌, length, Result, Ok, Err}
use Rattle.std.specs.Fn.{Shared}
use denote.Ref.{MutBor}
use Rattle.rpki_der.specs.declared.error.DecodeError.{DecodeError}
use Rattle.rpki_der.specs.declared.error.DecodeError.TheVariants.{Trailing}
use Rattle.rpki_der.specs.declared.cursor.Constructed.{Constructed}
use Rattle.rpki_der.specs.Reading.{Accepts, Refuses, UnlessMemory}
use Rattle.rpki_der.specs.Each.{SpellsEach}
use Rattle.rpki_der.specs.Composed.{Whole}
use Rattle.rpki_der.specs.Format.{Format, IsContentError}

-- ---- what is read

-- the values lead from the one state to the other
abbrev pub Lead : {S V : Type 0} → (S → V → S → Type 0) → S → List V → S → Type 0
Lead step from [] to = to ≡ from
Lead {S} step from (v ∷ vs) to = (next : S) × step from v next × Lead step next vs to

-- The error of values of F that are to fill s and lead on from a state: that of the first that isn't there, or an error
-- of contents at the first that leads nowhere.
pub data FoldFault {S V : Type 0} (step : S → V → S → Type 0) (F : Format V) : S → List ℕ → DecodeError → Type 0 where
  AtValue : {from : S} {s : List ℕ} {e : DecodeError} → s ≢ [] → UnlessMemory e (Refuses F.spells s) → F.fault s e
      → FoldFault step F from s e
  LeadsNowhere : {from : S} {s : List ℕ} {e : DecodeError} (v : V) (r : List ℕ) → Accepts F.spells s v r
      → ((next : S) → step from v next → ⊥) → IsContentError e → FoldFault step F from s e
  AfterValue : {from : S} {s : List ℕ} {e : DecodeError} (v : V) (next : S) (r : List ℕ) → Accepts F.spells s v r
      → step from v next → FoldFault step F next r e → FoldFault step F from s e

-- a reader of one value found s in a state and left r: the value leads to the next state
abbrev pub TakesStep : {S V : Type 0} → (S → V → S → Type 0) → Format V → S → List ℕ → List ℕ → Result S DecodeError
    → Type 0
TakesStep {S} {V} step F from s r (Ok next) = (v : V) × Accepts F.spells s v r × step from v next
TakesStep step F from s r (Err e) = s ≢ [] → FoldFault step F from s e

-- A reader of all of s: values that lead from one state to the other; or an error, and s is left as it was.
abbrev pub TakesFold : {S V : Type 0} → (S → V → S → Type 0) → Format V → S → List ℕ → List ℕ → Result S DecodeError
    → Type 0
TakesFold {S} {V} step F from s r (Ok to) = (r ≡ []) × (vs : List V) × SpellsEach F.spells vs s × Lead step from vs to
TakesFold step F from s r (Err e) = (r ≡ s) × FoldFault step F from s e

-- ---- what is called

-- a call of f at the cursor b in a state may return x and leave the cursor a
pub record CallFolds {F S R : Type 0}
    (g : Shared F (MutBor Constructed × (S × Unit {0})) (R × (MutBor Constructed × Unit {0}))) (f : F) (from : S)
    (b : Constructed) (x : R) (a : Constructed) : Type 0 where
  pub shown : MutBor Constructed
  pub shows : shown.now ≡ b
  pub left : MutBor Constructed
  pub met : g.post f (shown, (from, tt)) (x, (left, tt))
  pub leaves : left.now ≡ a

-- Calls of the reader, in sequence, led from one state to the other, read some of s and left r. Each moved on.
pub data Folded {S E : Type 0} (reads : S → Constructed → Result S E → Constructed → Type 0) :
    S → List ℕ → S → List ℕ → Type 0 where
  NoneFolded : {from : S} {s : List ℕ} → Folded reads from s from s
  NextFolded : {from next to : S} {s m r : List ℕ} → s ≢ [] → Whole (reads from) s (Ok next) m → length m < length s
      → Folded reads next m to r → Folded reads from s to r

-- The error e of s: after some calls the reader rejects the rest of it; or it returns a state and doesn't move on.
pub data NotFolded {S E : Type 0} (turned : DecodeError → E → Type 0)
    (reads : S → Constructed → Result S E → Constructed → Type 0) (from : S) (s : List ℕ) (e : E) : Type 0 where
  RefusedFold : (now : S) (m d : List ℕ) → Folded reads from s now m → m ≢ [] → Whole (reads now) m (Err e) d
      → NotFolded turned reads from s e
  UnmovedFold : (now next : S) (m d : List ℕ) → Folded reads from s now m → m ≢ [] → Whole (reads now) m (Ok next) d
      → length m ≤ length d → turned Trailing e → NotFolded turned reads from s e

-- The calls read all of s, or left it as it was.
abbrev pub Folds : {S E : Type 0} → (DecodeError → E → Type 0)
    → (S → Constructed → Result S E → Constructed → Type 0) → S → List ℕ → List ℕ → Result S E → Type 0
Folds turned reads from s r (Ok to) = (r ≡ []) × Folded reads from s to []
Folds turned reads from s r (Err e) = (r ≡ s) × NotFolded turned reads from s e
