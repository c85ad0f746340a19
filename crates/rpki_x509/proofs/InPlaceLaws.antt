-- Readers in place: of a part, of what is in it, and of parts in sequence.
use Rattle.std.proofs.Common.{ℕ, true, false, List, subst}
use Rattle.rpki_der.specs.declared.error.DecodeError.{DecodeError}
use Rattle.rpki_der.specs.declared.error.DecodeError.TheVariants.{OutOfMemory}
use Rattle.rpki_der.specs.TagName.{TagName}
use Rattle.rpki_der.specs.Reading.{Spells, Accepts, Refuses, Refusal, SpellsNothing}
use Rattle.rpki_der.specs.Values.{SpellsContents, SpellsLeaf, IsContentsFault}
use Rattle.rpki_der.specs.Parts.{Then}
use Rattle.rpki_der.proofs.InsideLaws.{unless-memory}
use Rattle.rpki_der.proofs.LeavesLaws.{contents-no-memory}
use Rattle.rpki_der.proofs.ComposedLaws.{nothing-whole}

-- an error of a reader that takes no memory
pub refused : {V : Type 0} (G : V → List ℕ → Type 0) (K : List ℕ → DecodeError → Type 0) (s r : List ℕ)
    (e : DecodeError) → (K s OutOfMemory → ⊥) → Refusal G K s r e → Refuses G s
refused G K s r e never h = unless-memory e (λ z. never (subst (K s) z h.kind)) h.refuses

module _ (t : TagName) where
  pub contents-refused : (s r : List ℕ) (e : DecodeError)
      → Refusal (SpellsContents t true) (IsContentsFault t true) s r e → Refuses (SpellsContents t true) s
  contents-refused s r e h = unless-memory e (λ z. contents-no-memory t true s e h.kind z) h.refuses

  -- a primitive value is not all of s
  pub primitive-none : (s r : List ℕ) (e : DecodeError)
      → Refusal (SpellsContents t false) (IsContentsFault t false) s r e → SpellsNothing (SpellsContents t false) s
  primitive-none s r e h =
      nothing-whole (SpellsContents t false) s
      (unless-memory e (λ z. contents-no-memory t false s e h.kind z) h.refuses)

-- ---- a value around contents of C

module _ {V : Type 0} (t : TagName) (C : V → List ℕ → Type 0) where
  value-of : (s : List ℕ) (v : V) (r : List ℕ) (h : Spells (SpellsLeaf t true C) s v r)
      → Spells (SpellsContents t true) s h.spelled.contents r
  value-of s v r h = record { front = h.front; parts = h.parts; spelled = h.spelled.value }

  pub outside : (s : List ℕ) → Refuses (SpellsContents t true) s → Refuses (SpellsLeaf t true C) s
  outside s none v r h = none h.spelled.contents r (value-of s v r h)

  pub not-inside : (s c r : List ℕ) → Accepts (SpellsContents t true) s c r → SpellsNothing C c
      → Refuses (SpellsLeaf t true C) s
  not-inside s c r a none v q h =
      let e = a.only h.spelled.contents q (value-of s v q h) in none v (subst (C v) e.0 h.spelled.spelled)

-- ---- a part in front of others

module _ {A B : Type 0} (G : A → List ℕ → Type 0) (H : B → List ℕ → Type 0) where
  pub front-of : (s : List ℕ) (x : A × B) (h : Then G H x s) → Spells G s x.0 h.second
  front-of s x h = record { front = h.first; parts = h.parts; spelled = h.one }

  pub not-first : (s : List ℕ) → Refuses G s → SpellsNothing (Then G H) s
  not-first s none x h = none x.0 h.second (front-of s x h)

  pub not-then : (s r : List ℕ) (a : A) → Accepts G s a r → SpellsNothing H r → SpellsNothing (Then G H) s
  not-then s r a k none x h =
      let e = k.only x.0 h.second (front-of s x h) in none x.1 (subst (H x.1) e.1 h.two)
