-- Parts in order, each over its reader: what a reader of contents returns at each of its ends. The parts are read from
-- the left, and the laws are applied from the right: to the last part first, and then to each part in front of it.
use Rattle.std.proofs.Common.{◌≡◌, ◌≢◌, inl, inr, ℕ, Bool, List, [], Option, Some, None, Ok, refl, sym, ap, subst}
use Rattle.rpki_der.specs.declared.error.DecodeError.{DecodeError}
use Rattle.rpki_der.specs.declared.error.DecodeError.TheVariants.{Trailing}
use Rattle.rpki_der.specs.TagName.{TagName}
use Rattle.rpki_der.specs.Reading.{Spells, Accepts, Refuses, Refusal, ReadsWhere, SpellsNothing, UnlessMemory}
use Rattle.rpki_der.specs.Values.{SpellsLeaf, HasTag}
use Rattle.rpki_der.specs.Parts.{SpellsBoth, Then, OptionalThen, optional_of}
use Rattle.rpki_der.specs.FirstFault.{FirstFault, OptionalFault, IsEndFault}
use Rattle.rpki_der.specs.FirstFault.FirstFault.{AtPart, Later}
use Rattle.rpki_der.proofs.ReadingLaws.{UnlessMemory-weaker}
use Rattle.rpki_der.proofs.LeavesLaws.{leaf-tag}
use Rattle.rpki_der.proofs.FrontLaws.{one-tag}
use Rattle.rpki_der.proofs.ComposedLaws.{all-read, nothing-after, nothing-whole}

abbrev pub Kind : Type 1
Kind = List ℕ → DecodeError → Type 0

-- ---- what is shown at an end: `ReadsParts` of a result that is known

-- s spells v, and nothing else
abbrev pub IsOnly : {V : Type 0} → (V → List ℕ → Type 0) → V → List ℕ → Type 0
IsOnly {V} G v s = G v s × ((w : V) → G w s → w ≡ v)

-- all of s was handed to a reader of G, which returned v and left r
abbrev pub Returned : {V : Type 0} → (V → List ℕ → Type 0) → Kind → List ℕ → List ℕ → V → Type 0
Returned G K s r v = (r ≡ [] → IsOnly G v s) × (r ≢ [] → SpellsNothing G s × K s Trailing)

-- it returned the error e
abbrev pub Failed : {V : Type 0} → (V → List ℕ → Type 0) → Kind → List ℕ → DecodeError → Type 0
Failed G K s e = UnlessMemory e (SpellsNothing G s) × K s e

-- ---- the last part

module _ {V : Type 0} {G : V → List ℕ → Type 0} {K : Kind} {s r : List ℕ} where
  pub last-read : {v : V} → Accepts G s v r → Returned G (FirstFault G K (λ v. IsEndFault)) s r v
  last-read {v} a = (all-read G s v r a, λ some. (nothing-after G s r v a some, Later v r a (some, refl)))

  pub last-refused : {e : DecodeError} → Refusal G K s r e → Failed G (FirstFault G K (λ v. IsEndFault)) s e
  last-refused {e} h = (UnlessMemory-weaker e (nothing-whole G s) h.refuses, AtPart h.refuses h.kind)

-- ---- a part in front of others

pub pair-is : {A B : Type 0} (x : A × B) (a : A) (b : B) → x.0 ≡ a → x.1 ≡ b → x ≡ (a, b)
pair-is x a b p q = λ i. (p i, q i)

pub first-of : {A B : Type 0} {G : A → List ℕ → Type 0} {H : B → List ℕ → Type 0} {s : List ℕ} {a : A} {b : B}
    (h : SpellsBoth G H a b s) → Spells G s a h.second
first-of h = record { front = h.first; parts = h.parts; spelled = h.one }

-- no first part, and so no two
pub no-first : {A B : Type 0} (G : A → List ℕ → Type 0) (H : B → List ℕ → Type 0) (s : List ℕ) → Refuses G s
    → (a : A) (b : B) → SpellsBoth G H a b s → ⊥
no-first G H s none a b h = none a h.second (first-of h)

-- a first part, and no second one after it
pub no-second : {A B : Type 0} (G : A → List ℕ → Type 0) (H : B → List ℕ → Type 0) (s m : List ℕ) (a : A)
    → Accepts G s a m → SpellsNothing H m
    → (x : A) (y : B) → SpellsBoth G H x y s → ⊥
no-second G H s m a one none x y h = none y (subst (λ (l : List ℕ). H y l) (one.only x h.second (first-of h)).1 h.two)

-- both parts, and no others
pub both-read : {A B : Type 0} (G : A → List ℕ → Type 0) (H : B → List ℕ → Type 0) (s m : List ℕ) (a : A) (b : B)
    → Accepts G s a m → IsOnly H b m
    → SpellsBoth G H a b s × ((x : A) (y : B) → SpellsBoth G H x y s → (x ≡ a) × (y ≡ b))
both-read G H s m a b one two = (
  record { first = one.spells.front; second = m; parts = one.spells.parts; one = one.spells.spelled; two = two.0 },
  λ x y h. let e = one.only x h.second (first-of h) in (e.0, two.1 y (subst (λ (l : List ℕ). H y l) e.1 h.two)),
)

both : {A B : Type 0} {G : A → List ℕ → Type 0} (H : B → List ℕ → Type 0) (s m : List ℕ) (a : A) (b : B)
    → Accepts G s a m → IsOnly H b m
    → IsOnly (Then G H) (a, b) s
both {A} {B} {G} H s m a b one two =
    let r = both-read G H s m a b one two in
    (r.0, λ x h. let e = r.1 x.0 x.1 h in pair-is x a b e.0 e.1)

module _ {A B : Type 0} {G : A → List ℕ → Type 0} (H : B → List ℕ → Type 0) where
  module _ {K L : Kind} {s : List ℕ} where
    -- it isn't there
    pub first-refused : {r : List ℕ} {e : DecodeError} → Refusal G K s r e
        → Failed (Then G H) (FirstFault G K (λ a. L)) s e
    first-refused {r} {e} h =
        (UnlessMemory-weaker e (λ none x k. no-first G H s none x.0 x.1 k) h.refuses, AtPart h.refuses h.kind)

    -- it is there, and one of the others isn't
    pub then-refused : {m : List ℕ} {a : A} {e : DecodeError} → Accepts G s a m → Failed H L m e
        → Failed (Then G H) (FirstFault G K (λ a. L)) s e
    then-refused {m} {a} {e} one h =
        (UnlessMemory-weaker e (λ none x k. no-second G H s m a one none x.0 x.1 k) h.0, Later a m one h.1)

    -- it is there, and so are the others
    pub then-read : {m r : List ℕ} {a : A} {b : B} → Accepts G s a m → Returned H L m r b
        → Returned (Then G H) (FirstFault G K (λ a. L)) s r (a, b)
    then-read {m} {r} {a} {b} one h = (
      λ end. both H s m a b one (h.0 end),
      λ some. let k = h.1 some in (λ x q. no-second G H s m a one k.0 x.0 x.1 q, Later a m one k.1),
    )

-- ---- a part that may be left out, in front of others that do not begin as it does

module _ {A B : Type 0} {G : A → List ℕ → Type 0} {H : B → List ℕ → Type 0} (Begins : List ℕ → Type 0)
    (begins : (s : List ℕ) (a : A) (r : List ℕ) → Spells G s a r → Begins s)
    (apart : (b : B) (s : List ℕ) → H b s → Begins s → ⊥)
    (K L : Kind) (s : List ℕ) where
  -- it begins, and isn't there
  pub optional-refused : {r : List ℕ} {e : DecodeError} → Begins s × Refusal G K s r e
      → Failed (OptionalThen G H) (OptionalFault Begins G K L) s e
  optional-refused {r} {e} (there, h) =
      (UnlessMemory-weaker e nothing h.refuses, inr (there, AtPart h.refuses h.kind)) where
        nothing : Refuses G s → SpellsNothing (OptionalThen G H) s
        nothing none (None, b) k = apart b s k there
        nothing none (Some a, b) k = none a k.second (first-of k)

  module _ {X : Type 0} (view : X → A) (m : List ℕ) where
    left-out : (p : Option X) → ReadsWhere Begins view G K s m (Ok p) → SpellsNothing H m
        → SpellsNothing (OptionalThen G H) s
    left-out None h none (None, b) k = none b (subst (H b) (sym h.1) k)
    left-out None h none (Some a, b) k = h.0 (begins s a k.second (first-of k))
    left-out (Some x) h none (None, b) k = apart b s k h.0
    left-out (Some x) h none (Some a, b) k = none b (subst (H b) (h.1.only a k.second (first-of k)).1 k.two)

    fault : (e : DecodeError) (p : Option X) → ReadsWhere Begins view G K s m (Ok p) → L m e
        → OptionalFault Begins G K L s e
    fault e None h k = inl (h.0, subst (λ (q : List ℕ). L q e) h.1 k)
    fault e (Some x) h k = inr (h.0, Later (view x) m h.1 k)

    -- it is there or left out, and one of the others isn't there
    pub optional-then-refused : (p : Option X) {e : DecodeError} → ReadsWhere Begins view G K s m (Ok p)
        → Failed H L m e
        → Failed (OptionalThen G H) (OptionalFault Begins G K L) s e
    optional-then-refused p {e} h k = (UnlessMemory-weaker e (left-out p h) k.0, fault e p h k.1)

    one-value : (b : B) (p : Option X) → ReadsWhere Begins view G K s m (Ok p) → IsOnly H b m
        → IsOnly (OptionalThen G H) (optional_of view p, b) s
    one-value b None h k = (subst (H b) h.1 k.0, only) where
      only : (w : Option A × B) → OptionalThen G H w s → w ≡ (None, b)
      only (None, c) q = pair-is (None, c) None b refl (k.1 c (subst (H c) (sym h.1) q))
      only (Some a, c) q = absurd (h.0 (begins s a q.second (first-of q)))
    one-value b (Some x) h k = (is.0, only) where
      is : IsOnly (Then G H) (view x, b) s
      is = both H s m (view x) b h.1 k

      only : (w : Option A × B) → OptionalThen G H w s → w ≡ (Some (view x), b)
      only (None, c) q = absurd (apart c s q h.0)
      only (Some a, c) q = let e = is.1 (a, c) q in pair-is (Some a, c) (Some (view x)) b
          (ap (λ (y : A × B). Some y.0) e) (ap (λ (y : A × B). y.1) e)

    -- it is there or left out, and the others are there
    pub optional-then-read : (p : Option X) {r : List ℕ} {b : B} → ReadsWhere Begins view G K s m (Ok p)
        → Returned H L m r b
        → Returned (OptionalThen G H) (OptionalFault Begins G K L) s r (optional_of view p, b)
    optional-then-read p {r} {b} h k =
        (λ end. one-value b p h (k.0 end), λ some. let q = k.1 some in (left-out p h q.0, fault Trailing p h q.1))

-- ---- parts that begin with a value of a tag

-- values of two tags do not begin alike
pub tags-apart : {B W : Type 0} {H : B → List ℕ → Type 0} (t u : TagName) (f : Bool) (C : W → List ℕ → Type 0)
    → (t ≡ u → ⊥)
    → ((b : B) (s : List ℕ) → H b s → (w : W) × (r : List ℕ) × Spells (SpellsLeaf u f C) s w r) → (b : B) (s : List ℕ)
    → H b s → HasTag t s → ⊥
tags-apart t u f C other begins b s h there =
    let k = begins b s h in other (one-tag s t u there (leaf-tag u f C s k.0 k.1 k.2))
