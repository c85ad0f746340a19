-- What a reader does with the remaining octets, in the terms of a grammar: a relation between a value and
-- the lists that spell it.
use Rattle.std.specs.Prelude.{◌≡◌, ◌≢◌, ℕ, Bool, true, false, List, ◌∷◌, ◌++◌, Result, Ok, Err, Option, Some, None}
use Rattle.rpki_der.specs.declared.error.DecodeError.{DecodeError}
use Rattle.rpki_der.specs.declared.error.DecodeError.TheVariants.{Truncated, BadTag, BadLength, Unexpected, Content}
use Rattle.rpki_der.specs.declared.error.DecodeError.TheVariants.{Trailing, OutOfMemory}

-- s begins with a spelling of v, and r remains
pub record Spells {V : Type 0} (G : V → List ℕ → Type 0) (s : List ℕ) (v : V) (r : List ℕ) : Type 0 where
  pub front : List ℕ
  pub parts : s ≡ front ++ r
  pub spelled : G v front

-- s begins with a spelling of v, r remains, and s begins with no other spelling
pub record Accepts {V : Type 0} (G : V → List ℕ → Type 0) (s : List ℕ) (v : V) (r : List ℕ) : Type 0 where
  pub spells : Spells G s v r
  pub only : (w : V) (q : List ℕ) → Spells G s w q → (w ≡ v) × (q ≡ r)

-- no beginning of s is in the grammar
abbrev pub Refuses : {V : Type 0} → (V → List ℕ → Type 0) → List ℕ → Type 0
Refuses {V} G s = (v : V) (r : List ℕ) → Spells G s v r → ⊥

-- s spells nothing
abbrev pub SpellsNothing : {V : Type 0} → (V → List ℕ → Type 0) → List ℕ → Type 0
SpellsNothing {V} G s = (v : V) → G v s → ⊥

-- s is a proper beginning of some spelling
abbrev pub IsCut : {V : Type 0} → (V → List ℕ → Type 0) → List ℕ → Type 0
IsCut {V} G s = (v : V) × (b : ℕ) × (more : List ℕ) × G v (s ++ b ∷ more)

-- a fact for each error but allocation failure
abbrev pub UnlessMemory : DecodeError → Type 0 → Type 0
UnlessMemory Truncated P = P
UnlessMemory BadTag P = P
UnlessMemory BadLength P = P
UnlessMemory Unexpected P = P
UnlessMemory (Content e) P = P
UnlessMemory Trailing P = P
UnlessMemory OutOfMemory P = Unit {0}

-- whether allocation failed
abbrev pub is_out : DecodeError → Bool
is_out Truncated = false
is_out BadTag = false
is_out BadLength = false
is_out Unexpected = false
is_out (Content e) = false
is_out Trailing = false
is_out OutOfMemory = true

-- An error of a reader of the grammar G on s that leaves r: nothing changed, no beginning of s is in G, and K says
-- which error it is.
pub record Refusal {V : Type 0} (G : V → List ℕ → Type 0) (K : List ℕ → DecodeError → Type 0) (s r : List ℕ)
    (e : DecodeError) : Type 0 where
  pub unchanged : r ≡ s
  pub refuses : UnlessMemory e (Refuses G s)
  pub kind : K s e

-- A reader of the grammar G found s and left r. The result x stands for the value view x.
abbrev pub Reads : {X V : Type 0} → (X → V) → (V → List ℕ → Type 0) → (List ℕ → DecodeError → Type 0) → List ℕ
    → List ℕ → Result X DecodeError → Type 0
Reads view G K s r (Ok x) = Accepts G s (view x) r
Reads view G K s r (Err e) = Refusal G K s r e

-- The same for an optional reader, which returns None exactly where s does not begin as B says.
abbrev pub ReadsWhere : {X V : Type 0} → (List ℕ → Type 0) → (X → V) → (V → List ℕ → Type 0)
    → (List ℕ → DecodeError → Type 0) → List ℕ → List ℕ → Result (Option X) DecodeError → Type 0
ReadsWhere B view G K s r (Ok None) = (B s → ⊥) × (r ≡ s)
ReadsWhere B view G K s r (Ok (Some x)) = B s × Accepts G s (view x) r
ReadsWhere B view G K s r (Err e) = B s × Refusal G K s r e

-- A reader of the whole of s.
abbrev pub Decodes : {X V : Type 0} → (X → V) → (V → List ℕ → Type 0) → (List ℕ → DecodeError → Type 0) → List ℕ
    → Result X DecodeError → Type 0
Decodes {X} {V} view G K s (Ok x) = G (view x) s × ((w : V) → G w s → w ≡ view x)
Decodes view G K s (Err e) = UnlessMemory e (SpellsNothing G s) × K s e

-- the kinds of K, and allocation failure where P holds
abbrev pub OrMemoryWhere : (List ℕ → Type 0) → (List ℕ → DecodeError → Type 0) → List ℕ → DecodeError → Type 0
OrMemoryWhere P K s Truncated = K s Truncated
OrMemoryWhere P K s BadTag = K s BadTag
OrMemoryWhere P K s BadLength = K s BadLength
OrMemoryWhere P K s Unexpected = K s Unexpected
OrMemoryWhere P K s (Content e) = K s (Content e)
OrMemoryWhere P K s Trailing = K s Trailing
OrMemoryWhere P K s OutOfMemory = P s

-- some beginning of s is in the grammar
abbrev pub Finds : {V : Type 0} → (V → List ℕ → Type 0) → List ℕ → Type 0
Finds {V} G s = (v : V) × (r : List ℕ) × Spells G s v r

-- As Reads, for a reader that keeps what it finds: allocation fails only where a beginning of s is in the grammar.
abbrev pub ReadsKept : {X V : Type 0} → (X → V) → (V → List ℕ → Type 0) → (List ℕ → DecodeError → Type 0) → List ℕ
    → List ℕ → Result X DecodeError → Type 0
ReadsKept view G K = Reads view G (OrMemoryWhere (Finds G) K)

-- a kind of K, and never allocation failure
pub record TakesNoMemory (K : List ℕ → DecodeError → Type 0) (s : List ℕ) (e : DecodeError) : Type 0 where
  pub other : e ≢ OutOfMemory
  pub kind : K s e

-- any kind
abbrev pub AnyFault : List ℕ → DecodeError → Type 0
AnyFault s e = Unit {0}

-- The error of a reader of whole octets: Trailing where a proper beginning is in the grammar; where no beginning is,
-- what the reader of a beginning says. Allocation fails only where it may in the reader of a beginning.
pub record IsWholeFault {V : Type 0} (G : V → List ℕ → Type 0) (K : List ℕ → DecodeError → Type 0) (s : List ℕ)
    (e : DecodeError) : Type 0 where
  pub trailing : (v : V) (b : ℕ) (more : List ℕ) → Spells G s v (b ∷ more) → UnlessMemory e (e ≡ Trailing)
  pub kind : Refuses G s → K s e
  pub memory : e ≡ OutOfMemory → K s OutOfMemory

-- the error of a reader of whole octets that allocates nothing
abbrev pub NeverMemory : {V : Type 0} → (V → List ℕ → Type 0) → (List ℕ → DecodeError → Type 0) → List ℕ → DecodeError
    → Type 0
NeverMemory G K = TakesNoMemory (IsWholeFault G K)
