-- A reader of one value whose contents a reader of its own has read, and a reader of whole octets.
use Rattle.std.proofs.Common.{◌≡◌, ◌≢◌, ℕ, Bool, List, [], ◌∷◌, ◌++◌, refl, sym, ap, subst, ◌∙◌}
use Rattle.std.proofs.lemmas.List.{append-nil}
use Rattle.rpki_der.specs.declared.error.DecodeError.{DecodeError}
use Rattle.rpki_der.specs.declared.error.DecodeError.TheVariants.{Trailing, OutOfMemory}
use Rattle.rpki_der.specs.TagName.{TagName}
use Rattle.rpki_der.specs.Reading.{Spells, Accepts, Refuses, Refusal, UnlessMemory, SpellsNothing, TakesNoMemory}
use Rattle.rpki_der.specs.Reading.{IsWholeFault}
use Rattle.rpki_der.specs.Values.{SpellsContents, SpellsLeaf, IsContentsFault, GivesOuterFault}
use Rattle.rpki_der.proofs.ReadingLaws.{UnlessMemory-weaker}
use Rattle.rpki_der.proofs.LeavesLaws.{leaf-value, leaf-refused, leaf-accepted}

-- ---- one value, over the reader of its contents

-- the value isn't there
pub outer-refused : {V : Type 0} (t : TagName) (f : Bool) (C : V → List ℕ → Type 0) (s q r : List ℕ) (e : DecodeError)
    → r ≡ s
    → Refusal (SpellsContents t f) (IsContentsFault t f) s q e → Refusal (SpellsLeaf t f C) (GivesOuterFault t f) s r e
outer-refused t f C s q r e same h =
    record { unchanged = same; refuses = (leaf-refused t f C s q r e same h).refuses; kind = λ none. h.kind }

-- its contents spell nothing, or allocation failed
pub inner-refused : {V : Type 0} (t : TagName) (f : Bool) (C : V → List ℕ → Type 0) (s c q r : List ℕ) (e : DecodeError)
    → r ≡ s
    → Accepts (SpellsContents t f) s c q → UnlessMemory e (SpellsNothing C c)
    → Refusal (SpellsLeaf t f C) (GivesOuterFault t f) s r e
inner-refused {V} t f C s c q r e same a h = record {
  unchanged = same;
  refuses = UnlessMemory-weaker e (λ none v p l.
      let k = leaf-value t f C s v p l in
      let g = a.only k.0 p k.1 in
      none v (subst (λ (d : List ℕ). C v d) g.0 k.2)) h;
  kind = λ none. absurd (none c q a.spells);
}

-- the reader of the contents returned
pub inner-accepted : {V : Type 0} (t : TagName) (f : Bool) (C : V → List ℕ → Type 0) (s c r : List ℕ) (v : V)
    → Accepts (SpellsContents t f) s c r → C v c × ((w : V) → C w c → w ≡ v) → Accepts (SpellsLeaf t f C) s v r
inner-accepted t f C s c r v a h = leaf-accepted t f C s c r v a h.0 h.1

-- an error that is not OutOfMemory, of a reader that allocates nothing
pub without-memory : {V : Type 0} (G : V → List ℕ → Type 0) (K : List ℕ → DecodeError → Type 0) (s r : List ℕ)
    (e : DecodeError)
    → e ≢ OutOfMemory → Refusal G K s r e → Refusal G (TakesNoMemory K) s r e
without-memory G K s r e ne h =
    record { unchanged = h.unchanged; refuses = h.refuses; kind = record { other = ne; kind = h.kind } }

-- ---- all of a list, over the reader of its beginning

-- what is spelled as a whole is spelled by a beginning
pub spelled-whole : {V : Type 0} (G : V → List ℕ → Type 0) (s : List ℕ) (v : V) → G v s → Spells G s v []
spelled-whole G s v h = record { front = s; parts = sym (append-nil s); spelled = h }

-- no beginning is in the grammar, and so the whole isn't
pub nothing-whole : {V : Type 0} (G : V → List ℕ → Type 0) (s : List ℕ) → Refuses G s → SpellsNothing G s
nothing-whole G s none v h = none v [] (spelled-whole G s v h)

-- something remains after the beginning that is in the grammar
pub nothing-after : {V : Type 0} (G : V → List ℕ → Type 0) (s r : List ℕ) (v : V) → Accepts G s v r → (r ≡ [] → ⊥)
    → SpellsNothing G s
nothing-after G s r v a some w h = some (sym (a.only w [] (spelled-whole G s w h)).1)

-- nothing remains
pub all-read : {V : Type 0} (G : V → List ℕ → Type 0) (s : List ℕ) (v : V) (r : List ℕ) → Accepts G s v r → r ≡ []
    → G v s × ((w : V) → G w s → w ≡ v)
all-read {V} G s v r a end =
    let p : s ≡ a.spells.front = a.spells.parts ∙ ap (λ (l : List ℕ). a.spells.front ++ l) end ∙ append-nil
    a.spells.front in
    (subst (G v) (sym p) a.spells.spelled, λ w h. (a.only w [] (spelled-whole G s w h)).0)

-- what a reader of whole octets returns where something remains
pub more-left : {V : Type 0} (G : V → List ℕ → Type 0) (K : List ℕ → DecodeError → Type 0) (s : List ℕ) (v : V)
    (r : List ℕ)
    → Accepts G s v r → (r ≡ [] → ⊥) → SpellsNothing G s × IsWholeFault G K s Trailing
more-left {V} G K s v r a some = (
  nothing-after G s r v a some,
  record
      { trailing = λ w b more h. refl; kind = λ none. absurd (none v r a.spells); memory = λ z. cc },
)

-- what it returns where the reader of the beginning failed
pub not-read : {V : Type 0} (G : V → List ℕ → Type 0) (K : List ℕ → DecodeError → Type 0) (s r : List ℕ)
    (e : DecodeError)
    → Refusal G K s r e → UnlessMemory e (SpellsNothing G s) × IsWholeFault G K s e
not-read {V} G K s r e h = (
  UnlessMemory-weaker e (nothing-whole G s) h.refuses,
  record {
    trailing = λ v b more g. UnlessMemory-weaker e (λ none. absurd (none v (b ∷ more) g)) h.refuses;
    kind = λ k.
        h.kind;
    memory = λ z. subst (K s) z h.kind;
  },
)
