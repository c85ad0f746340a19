-- Which error octets have that a composed reader rejects: that of the leftmost part that isn't there.
use Rattle.std.specs.Prelude.{◌≡◌, ◌≢◌, ◌⊎◌, ℕ, Bool, List, [], Result, Ok, Err}
use Rattle.rpki_der.specs.declared.error.DecodeError.{DecodeError}
use Rattle.rpki_der.specs.declared.error.DecodeError.TheVariants.{Trailing}
use Rattle.rpki_der.specs.TagName.{TagName}
use Rattle.rpki_der.specs.Reading.{Accepts, Refuses, SpellsNothing, UnlessMemory}
use Rattle.rpki_der.specs.Values.{SpellsContents, IsContentsFault}

-- The error e of s, which a part of G should begin: no such part begins s, and e is what K says; or the part v begins
-- it, and e is what L says of v and of what follows.
pub data FirstFault {V : Type 0} (G : V → List ℕ → Type 0) (K : List ℕ → DecodeError → Type 0)
    (L : V → List ℕ → DecodeError → Type 0) (s : List ℕ) (e : DecodeError) : Type 0 where
  AtPart : UnlessMemory e (Refuses G s) → K s e → FirstFault G K L s e
  Later : (v : V) (r : List ℕ) → Accepts G s v r → L v r e → FirstFault G K L s e

-- the same of a part that is looked for only where s begins as B says
abbrev pub OptionalFault : {V : Type 0} → (List ℕ → Type 0) → (V → List ℕ → Type 0) → (List ℕ → DecodeError → Type 0)
    → (List ℕ → DecodeError → Type 0) → List ℕ → DecodeError → Type 0
OptionalFault B G K L s e = ((B s → ⊥) × L s e) ⊎ (B s × FirstFault G K (λ v. L) s e)

-- nothing may be left
abbrev pub IsEndFault : List ℕ → DecodeError → Type 0
IsEndFault s e = (s ≢ []) × (e ≡ Trailing)

-- The error of parts of G that are to fill s: that of the first that isn't there.
pub data RepeatedFault {V : Type 0} (G : V → List ℕ → Type 0) (K : List ℕ → DecodeError → Type 0) :
    List ℕ → DecodeError → Type 0 where
  AtMember : {s : List ℕ} {e : DecodeError} → s ≢ [] → UnlessMemory e (Refuses G s) → K s e → RepeatedFault G K s e
  AfterMember : {s : List ℕ} {e : DecodeError} (v : V) (r : List ℕ) → Accepts G s v r → RepeatedFault G K r e
      → RepeatedFault G K s e

-- The error of a value of this tag and form, or of its contents, of which L says it.
abbrev pub IsInsideFault : TagName → Bool → (List ℕ → DecodeError → Type 0) → List ℕ → DecodeError → Type 0
IsInsideFault t f L = FirstFault (SpellsContents t f) (IsContentsFault t f) (λ c r. L c)

-- A reader of all of the parts that are to fill s left r. Where r is empty s spells the result and nothing else; where
-- it isn't, s spells nothing, and Trailing is its error.
abbrev pub ReadsParts : {X V : Type 0} → (X → V) → (V → List ℕ → Type 0) → (List ℕ → DecodeError → Type 0) → List ℕ
    → List ℕ → Result X DecodeError → Type 0
ReadsParts {X} {V} view G K s r (Ok x) =
    (r ≡ [] → G (view x) s × ((w : V) → G w s → w ≡ view x)) × (r ≢ [] → SpellsNothing G s × K s Trailing)
ReadsParts view G K s r (Err e) = UnlessMemory e (SpellsNothing G s) × K s e
