-- A reader that keeps octets, and what it keeps them with.
use Rattle.std.specs.Prelude.{◌≡◌, ◌++◌, List, ℕ, Result, Ok}
use Rattle.std.specs.Fn.{Once, Shared}
use denote.Ref.{MutBor}
use Rattle.rpki_der.specs.declared.cursor.Constructed.{Constructed}
use Rattle.rpki_der.specs.Cursor.{left}

-- f may be called at any cursor, with what can keep the remaining octets
abbrev pub TakesKept : {F K R : Type 0} → (K → List ℕ → Type 0)
    → Once F (MutBor Constructed × (K × Unit {0})) (R × (MutBor Constructed × Unit {0})) → F → Type 0
TakesKept {F} {K} holds g f =
    (keep : K) (shown : MutBor Constructed) → holds keep (left shown.now) → g.pre f (shown, (keep, tt))

-- a call of f at the cursor b, with what can keep the remaining octets, may return x and leave the cursor a
pub record KeptReads {F K R : Type 0} (holds : K → List ℕ → Type 0)
    (g : Once F (MutBor Constructed × (K × Unit {0})) (R × (MutBor Constructed × Unit {0}))) (f : F) (b : Constructed)
    (x : R) (a : Constructed) : Type 0 where
  pub keep : K
  pub held : holds keep (left b)
  pub shown : MutBor Constructed
  pub shows : shown.now ≡ b
  pub rest : MutBor Constructed
  pub met : g.post f (shown, (keep, tt)) (x, (rest, tt))
  pub leaves : rest.now ≡ a

-- the same of a reader that is called many times
abbrev pub TakesEachKept : {F K R : Type 0} → (K → List ℕ → Type 0)
    → Shared F (MutBor Constructed × (K × Unit {0})) (R × (MutBor Constructed × Unit {0})) → F → Type 0
TakesEachKept {F} {K} holds g f =
    (keep : K) (shown : MutBor Constructed) → holds keep (left shown.now) → g.pre f (shown, (keep, tt))

pub record KeptCallReads {F K R : Type 0} (holds : K → List ℕ → Type 0)
    (g : Shared F (MutBor Constructed × (K × Unit {0})) (R × (MutBor Constructed × Unit {0}))) (f : F) (b : Constructed)
    (x : R) (a : Constructed) : Type 0 where
  pub keep : K
  pub held : holds keep (left b)
  pub shown : MutBor Constructed
  pub shows : shown.now ≡ b
  pub rest : MutBor Constructed
  pub met : g.post f (shown, (keep, tt)) (x, (rest, tt))
  pub leaves : rest.now ≡ a

-- a value is read from the front: what remains then is what follows a beginning
abbrev pub LeavesRest : {X E : Type 0} → (Constructed → Result X E → Constructed → Type 0) → Type 0
LeavesRest {X} reads = (b a : Constructed) (x : X) → reads b (Ok x) a → (front : List ℕ) × (left b ≡ front ++ left a)
