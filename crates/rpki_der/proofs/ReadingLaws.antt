-- How readings are put together, for any grammars.
use Rattle.std.proofs.Common.{◌≡◌, ◌≢◌, ◌⊎◌, ◌∙◌, ℕ, true, false, List, inl, inr, refl, sym, ap, subst}
use Rattle.std.proofs.lemmas.Bool.{false≢true}
use Rattle.rpki_der.specs.declared.error.DecodeError.{DecodeError}
use Rattle.rpki_der.specs.declared.error.DecodeError.TheVariants.{Truncated, BadTag, BadLength, Unexpected, Content}
use Rattle.rpki_der.specs.declared.error.DecodeError.TheVariants.{Trailing, OutOfMemory}
use Rattle.rpki_der.specs.Reading.{Refuses, UnlessMemory, is_out, Refusal, OrMemoryWhere}

-- a weaker fact for each error but allocation failure
pub UnlessMemory-weaker : (e : DecodeError) {P Q : Type 0} → (P → Q) → UnlessMemory e P → UnlessMemory e Q
UnlessMemory-weaker Truncated f h = f h
UnlessMemory-weaker BadTag f h = f h
UnlessMemory-weaker BadLength f h = f h
UnlessMemory-weaker Unexpected f h = f h
UnlessMemory-weaker (Content e) f h = f h
UnlessMemory-weaker Trailing f h = f h
UnlessMemory-weaker OutOfMemory f h = h

-- a fact that holds anyway
pub UnlessMemory-from : (e : DecodeError) {P : Type 0} → P → UnlessMemory e P
UnlessMemory-from Truncated h = h
UnlessMemory-from BadTag h = h
UnlessMemory-from BadLength h = h
UnlessMemory-from Unexpected h = h
UnlessMemory-from (Content e) h = h
UnlessMemory-from Trailing h = h
UnlessMemory-from OutOfMemory h = tt

-- allocation failed, or it didn't: so who needs no kind asks
pub memory-or-not : (e : DecodeError) → (e ≡ OutOfMemory) ⊎ (e ≢ OutOfMemory)
memory-or-not Truncated = inr (λ z. cc)
memory-or-not BadTag = inr (λ z. cc)
memory-or-not BadLength = inr (λ z. cc)
memory-or-not Unexpected = inr (λ z. cc)
memory-or-not (Content x) = inr (λ z. cc)
memory-or-not Trailing = inr (λ z. cc)
memory-or-not OutOfMemory = inl refl

-- the test of it
pub is-out : (e : DecodeError) → is_out e ≡ true → e ≡ OutOfMemory
is-out Truncated h = absurd (false≢true h)
is-out BadTag h = absurd (false≢true h)
is-out BadLength h = absurd (false≢true h)
is-out Unexpected h = absurd (false≢true h)
is-out (Content x) h = absurd (false≢true h)
is-out Trailing h = absurd (false≢true h)
is-out OutOfMemory h = refl

pub isnt-out : (e : DecodeError) → is_out e ≡ false → e ≢ OutOfMemory
isnt-out e h z = false≢true (sym h ∙ ap is_out z)

-- the fact of an error that isn't allocation failure
pub unless-memory : (e : DecodeError) {P : Type 0} → e ≢ OutOfMemory → UnlessMemory e P → P
unless-memory Truncated n h = h
unless-memory BadTag n h = h
unless-memory BadLength n h = h
unless-memory Unexpected n h = h
unless-memory (Content x) n h = h
unless-memory Trailing n h = h
unless-memory OutOfMemory n h = absurd (n refl)

-- allocation failure has no such fact
pub at-memory : (e : DecodeError) (P : Type 0) → e ≡ OutOfMemory → UnlessMemory e P
at-memory e P z = subst (λ (d : DecodeError). UnlessMemory d P) (sym z) tt

-- a fact that holds of any other error
pub unless-other : (e : DecodeError) {P : Type 0} → (e ≢ OutOfMemory → P) → UnlessMemory e P
unless-other e {P} h = elim (memory-or-not e) [ inl z ↦ at-memory e P z | inr n ↦ UnlessMemory-from e (h n) ]

-- where the fact is false allocation failed
pub only-memory : (e : DecodeError) {P : Type 0} → UnlessMemory e P → (P → ⊥) → e ≡ OutOfMemory
only-memory e h n = elim (memory-or-not e) [ inl z ↦ z | inr other ↦ absurd (n (unless-memory e other h)) ]

-- an error of a reader of one grammar is one of a reader of another
pub Refusal-weaker : {V W : Type 0} {G : V → List ℕ → Type 0} {H : W → List ℕ → Type 0}
    {K L : List ℕ → DecodeError → Type 0} {s r : List ℕ} {e : DecodeError}
    → (Refuses G s → Refuses H s) → (K s e → L s e) → Refusal G K s r e → Refusal H L s r e
Refusal-weaker {e = e} f g h =
    record { unchanged = h.unchanged; refuses = UnlessMemory-weaker e f h.refuses; kind = g h.kind }

pub or-memory-where : (P : List ℕ → Type 0) (K : List ℕ → DecodeError → Type 0) (s : List ℕ) (e : DecodeError)
    → (K s OutOfMemory → P s) → K s e → OrMemoryWhere P K s e
or-memory-where P K s Truncated f h = h
or-memory-where P K s BadTag f h = h
or-memory-where P K s BadLength f h = h
or-memory-where P K s Unexpected f h = h
or-memory-where P K s (Content x) f h = h
or-memory-where P K s Trailing f h = h
or-memory-where P K s OutOfMemory f h = f h

pub Refusal-or-memory-where : {V : Type 0} {G : V → List ℕ → Type 0} (P : List ℕ → Type 0)
    (K : List ℕ → DecodeError → Type 0) (s r : List ℕ) (e : DecodeError)
    → (K s OutOfMemory → P s) → Refusal G K s r e → Refusal G (OrMemoryWhere P K) s r e
Refusal-or-memory-where P K s r e f h =
    record { unchanged = h.unchanged; refuses = h.refuses; kind = or-memory-where P K s e f h.kind }

-- another kind, allocation failure aside
pub or-memory-kind : (P : List ℕ → Type 0) (K L : List ℕ → DecodeError → Type 0) (s : List ℕ) (e : DecodeError)
    → ((d : DecodeError) → K s d → L s d) → OrMemoryWhere P K s e → OrMemoryWhere P L s e
or-memory-kind P K L s Truncated f h = f Truncated h
or-memory-kind P K L s BadTag f h = f BadTag h
or-memory-kind P K L s BadLength f h = f BadLength h
or-memory-kind P K L s Unexpected f h = f Unexpected h
or-memory-kind P K L s (Content x) f h = f (Content x) h
or-memory-kind P K L s Trailing f h = f Trailing h
or-memory-kind P K L s OutOfMemory f h = h

-- allocation fails elsewhere, the other kinds stay
pub or-memory-from : (P Q : List ℕ → Type 0) (K : List ℕ → DecodeError → Type 0) (s : List ℕ) (e : DecodeError)
    → (P s → Q s) → OrMemoryWhere P K s e → OrMemoryWhere Q K s e
or-memory-from P Q K s Truncated f h = h
or-memory-from P Q K s BadTag f h = h
or-memory-from P Q K s BadLength f h = h
or-memory-from P Q K s Unexpected f h = h
or-memory-from P Q K s (Content x) f h = h
or-memory-from P Q K s Trailing f h = h
or-memory-from P Q K s OutOfMemory f h = f h
