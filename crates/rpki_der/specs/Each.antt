-- Values of one type, in sequence (X.690 8.10, 8.12), and a reader that another reader's calls make up.
use Rattle.std.specs.Prelude.{◌≡◌, ◌≢◌, ◌<◌, ◌≤◌, ◌⊎◌, ℕ, List, [], ◌∷◌, length, Result, Ok, Err}
use Rattle.std.specs.Fn.{Shared}
use denote.Ref.{MutBor}
use Rattle.rpki_der.specs.declared.error.DecodeError.{DecodeError}
use Rattle.rpki_der.specs.declared.error.DecodeError.TheVariants.{Trailing, OutOfMemory}
use Rattle.rpki_der.specs.declared.cursor.Constructed.{Constructed}
use Rattle.rpki_der.specs.Reading.{Spells, Finds, OrMemoryWhere}
use Rattle.rpki_der.specs.Composed.{Whole}
use Rattle.rpki_der.specs.FirstFault.{RepeatedFault}

-- the spellings of these values, in sequence
abbrev pub SpellsEach : {V : Type 0} → (V → List ℕ → Type 0) → List V → List ℕ → Type 0
SpellsEach G [] p = p ≡ []
SpellsEach G (v ∷ vs) p = (following : List ℕ) × Spells G p v following × SpellsEach G vs following

-- the same of one value at least
pub record SpellsSome {V : Type 0} (G : V → List ℕ → Type 0) (vs : List V) (p : List ℕ) : Type 0 where
  pub some : vs ≢ []
  pub each : SpellsEach G vs p

-- The error of values of G that are to fill s and are kept: that of the first that isn't there. Allocation fails only
-- where it may in the reader of one value, or where there is a value to keep.
abbrev pub IsEachFault : {V : Type 0} → (V → List ℕ → Type 0) → (List ℕ → DecodeError → Type 0) → List ℕ
    → DecodeError → Type 0
IsEachFault G K = RepeatedFault G (OrMemoryWhere (λ s. K s OutOfMemory ⊎ Finds G s) K)

-- a call of f at the cursor b may return x and leave the cursor a
pub record CallReads {F R : Type 0}
    (g : Shared F (MutBor Constructed × Unit {0}) (R × (MutBor Constructed × Unit {0}))) (f : F) (b : Constructed)
    (x : R) (a : Constructed) : Type 0 where
  pub shown : MutBor Constructed
  pub shows : shown.now ≡ b
  pub left : MutBor Constructed
  pub met : g.post f (shown, tt) (x, (left, tt))
  pub leaves : left.now ≡ a

-- Calls of the reader, in sequence, read these values of s and left r. Each moved on.
pub data EachRead {X E : Type 0} (reads : Constructed → Result X E → Constructed → Type 0) :
    List ℕ → List X → List ℕ → Type 0 where
  NoneRead : {s : List ℕ} → EachRead reads s [] s
  NextRead : {s m r : List ℕ} {x : X} {xs : List X} → s ≢ [] → Whole reads s (Ok x) m → length m < length s
      → EachRead reads m xs r → EachRead reads s (x ∷ xs) r

-- The error e of s: after some values the reader rejects the rest of it; or it returns a value of it and doesn't
-- move on; or there is no memory to keep the value.
pub data NotEach {X E : Type 0} (turned : DecodeError → E → Type 0)
    (reads : Constructed → Result X E → Constructed → Type 0) (s : List ℕ) (e : E) : Type 0 where
  RefusedNext : (xs : List X) (m d : List ℕ) → EachRead reads s xs m → m ≢ [] → Whole reads m (Err e) d
      → NotEach turned reads s e
  Unmoved : (xs : List X) (m : List ℕ) (x : X) (d : List ℕ) → EachRead reads s xs m → m ≢ [] → Whole reads m (Ok x) d
      → length m ≤ length d → turned Trailing e → NotEach turned reads s e
  NotKept : (xs : List X) (m : List ℕ) (x : X) (d : List ℕ) → EachRead reads s xs m → m ≢ [] → Whole reads m (Ok x) d
      → turned OutOfMemory e → NotEach turned reads s e

-- The calls read all of s, or left it as it was. The result u stands for the values items u.
abbrev pub ReadsEach : {U X E : Type 0} → (U → List X) → (DecodeError → E → Type 0)
    → (Constructed → Result X E → Constructed → Type 0) → List ℕ → List ℕ → Result U E → Type 0
ReadsEach items turned reads s r (Ok u) = (r ≡ []) × EachRead reads s (items u) []
ReadsEach items turned reads s r (Err e) = (r ≡ s) × NotEach turned reads s e
