-- A reader of one value whose contents another reader reads to their end.
use Rattle.std.specs.Prelude.{◌≡◌, ◌≢◌, Bool, List, [], ℕ, Result, Ok, Err}
use Rattle.rpki_der.specs.declared.error.DecodeError.{DecodeError}
use Rattle.rpki_der.specs.declared.error.DecodeError.TheVariants.{Trailing}
use Rattle.rpki_der.specs.declared.cursor.Constructed.{Constructed}
use Rattle.rpki_der.specs.Cursor.{left}
use Rattle.rpki_der.specs.TagName.{TagName}
use Rattle.rpki_der.specs.Reading.{Accepts, SpellsNothing, Refusal, UnlessMemory}
use Rattle.rpki_der.specs.Values.{SpellsContents, IsContentsFault}

-- s begins with such a value, which q follows; the reader of its contents returns x and leaves d
pub record Inside {X E : Type 0} (t : TagName) (f : Bool) (reads : Constructed → Result X E → Constructed → Type 0)
    (s q : List ℕ) (x : Result X E) (d : List ℕ) : Type 0 where
  pub before : Constructed
  pub after : Constructed
  pub value : Accepts (SpellsContents t f) s (left before) q
  pub read : reads before x after
  pub rest : left after ≡ d

-- The error e of s: the value isn't there; or the reader of its contents rejects them; or it leaves some of them.
-- Errors of this reader's own are turned into those of the reader of the contents.
pub data NotInside {X E : Type 0} (t : TagName) (f : Bool) (turned : DecodeError → E → Type 0)
    (reads : Constructed → Result X E → Constructed → Type 0) (s : List ℕ) (e : E) : Type 0 where
  Outside : (c : DecodeError) (q : List ℕ) → Refusal (SpellsContents t f) (IsContentsFault t f) s q c → turned c e
      → NotInside t f turned reads s e
  Refused : (q d : List ℕ) → Inside t f reads s q (Err e) d → NotInside t f turned reads s e
  More : (x : X) (q d : List ℕ) → Inside t f reads s q (Ok x) d → d ≢ [] → turned Trailing e
      → NotInside t f turned reads s e

-- The reader of one value found s and left r.
abbrev pub ReadsInside : {X E : Type 0} → TagName → Bool → (DecodeError → E → Type 0)
    → (Constructed → Result X E → Constructed → Type 0) →
    List ℕ → List ℕ → Result X E → Type 0
ReadsInside t f turned reads s r (Ok x) = Inside t f reads s r (Ok x) []
ReadsInside t f turned reads s r (Err e) = (r ≡ s) × NotInside t f turned reads s e

-- A reader of the whole of s left r. Where r is empty s spells the result and nothing else; where it isn't, or where s
-- is rejected, s spells nothing.
abbrev pub ReadsAll : {X V : Type 0} → (X → V) → (V → List ℕ → Type 0) → (List ℕ → DecodeError → Type 0) → List ℕ
    → List ℕ → Result X DecodeError → Type 0
ReadsAll {X} {V} view G K s r (Ok x) =
    (r ≡ [] → G (view x) s × ((w : V) → G w s → w ≡ view x)) × (r ≢ [] → SpellsNothing G s)
ReadsAll view G K s r (Err e) = UnlessMemory e (SpellsNothing G s) × K s e

-- All of s was handed to the reader, which returned x and left d.
pub record Whole {X E : Type 0} (reads : Constructed → Result X E → Constructed → Type 0) (s : List ℕ)
    (x : Result X E) (d : List ℕ) : Type 0 where
  pub before : Constructed
  pub after : Constructed
  pub all : left before ≡ s
  pub read : reads before x after
  pub rest : left after ≡ d

-- The error e of s: the reader rejects it, or leaves some of it.
pub data NotWhole {X E : Type 0} (turned : DecodeError → E → Type 0)
    (reads : Constructed → Result X E → Constructed → Type 0) (s : List ℕ) (e : E) : Type 0 where
  RefusedAll : (d : List ℕ) → Whole reads s (Err e) d → NotWhole turned reads s e
  Left : (x : X) (d : List ℕ) → Whole reads s (Ok x) d → d ≢ [] → turned Trailing e → NotWhole turned reads s e

-- The reader read all of s.
abbrev pub ReadsWhole : {X E : Type 0} → (DecodeError → E → Type 0)
    → (Constructed → Result X E → Constructed → Type 0) → List ℕ → Result X E → Type 0
ReadsWhole turned reads s (Ok x) = Whole reads s (Ok x) []
ReadsWhole turned reads s (Err e) = NotWhole turned reads s e
