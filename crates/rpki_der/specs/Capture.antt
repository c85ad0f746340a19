-- A reader whose octets are kept.
use Rattle.std.specs.Prelude.{◌≡◌, ◌<◌, ◌⊎◌, List, ℕ, ◌++◌, length, Result, Ok, Err}
use Rattle.rpki_der.specs.declared.error.DecodeError.{DecodeError}
use Rattle.rpki_der.specs.declared.error.DecodeError.TheVariants.{Trailing, OutOfMemory}
use Rattle.rpki_der.specs.declared.cursor.Constructed.{Constructed}
use Rattle.rpki_der.specs.Reading.{Finds, OrMemoryWhere}
use Rattle.rpki_der.specs.Members.{IsValueList}
use Rattle.rpki_der.specs.Composed.{Whole}

-- The error e of s, which the reader left d of: it rejects s; or d is more than s; or what it read is kept not, and if
-- that are values then for want of memory.
pub data NotCaptured {X E : Type 0} (turned : DecodeError → E → Type 0)
    (reads : Constructed → Result X E → Constructed → Type 0) (s : List ℕ) (e : E) : Type 0 where
  RefusedCapture : (d : List ℕ) → Whole reads s (Err e) d → NotCaptured turned reads s e
  Grown : (x : X) (d : List ℕ) → Whole reads s (Ok x) d → length s < length d → turned Trailing e
      → NotCaptured turned reads s e
  NotKept : (x : X) (d front rest : List ℕ) (c : DecodeError) → Whole reads s (Ok x) d → s ≡ front ++ rest
      → length rest ≡ length d → (IsValueList front → c ≡ OutOfMemory) → turned c e → NotCaptured turned reads s e

-- The reader took octets away from the front of s, which are kept, and r remains; or s is left as it was.
abbrev pub Captures : {X E : Type 0} → (DecodeError → E → Type 0)
    → (Constructed → Result X E → Constructed → Type 0) → List ℕ → List ℕ → Result (List ℕ) E → Type 0
Captures {X} turned reads s r (Ok kept) =
    (x : X) × (d : List ℕ) × Whole reads s (Ok x) d × (s ≡ kept ++ r) × (length r ≡ length d)
Captures turned reads s r (Err e) = (r ≡ s) × NotCaptured turned reads s e

-- the grammar of octets that are kept: they stand for themselves, and spell some value
pub record SpellsKept {V : Type 0} (G : V → List ℕ → Type 0) (v p : List ℕ) : Type 0 where
  pub same : p ≡ v
  pub value : V
  pub spelled : G value v

-- the error of a reader whose octets are kept: allocation fails where it may in the reader, or where that succeeds
abbrev pub IsCapturedFault : {V : Type 0} → (V → List ℕ → Type 0) → (List ℕ → DecodeError → Type 0) → List ℕ
    → DecodeError → Type 0
IsCapturedFault G K = OrMemoryWhere (λ s. K s OutOfMemory ⊎ Finds G s) K
