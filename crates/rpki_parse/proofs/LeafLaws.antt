-- Leaves: where contents are decided as a relation says, the function finds what readers by that relation do.
use Rattle.std.proofs.Common.{◌≡◌, ℕ, zero, suc, subst, Bool, false, List, [], ◌∷◌, ◌++◌, length, refl, sym, ap, ◌∙◌}
use Rattle.std.proofs.Common.{arith, Result, Ok, Err, Option, Some, None, inl, inr}
use Rattle.rpki_der.specs.declared.error.DecodeError.{DecodeError}
use Rattle.rpki_der.specs.Error.{error_number}
use Rattle.rpki_der.specs.TagName.{TagName}
use Rattle.rpki_der.specs.Header.{header_octets}
use Rattle.rpki_der.specs.Reading.{Spells}
use Rattle.rpki_der.specs.Values.{SpellsContents, IsLeafFault, ReadsLeaf}
use Rattle.rpki_der.proofs.StepLaws.{IsBytes}
use Rattle.rpki_der.proofs.LeafValueLaws.{leaf-shorter}
use Rattle.rpki_der.proofs.FaultKindLaws.{head-of, leaf-parts}
use Rattle.rpki_parse.specs.Words.{Moves, parsed}
use Rattle.rpki_parse.specs.Leaf.{leaf_at}
use Rattle.rpki_parse.proofs.ValueLaws.{value-read, value-failed}

-- contents are decided as the relation says
pub record Decides {V : Type 0} (C : V → List ℕ → Type 0) (d : List ℕ → Option V) : Type 0 where
  pub complete : (v : V) (c : List ℕ) → C v c → d c ≡ Some v
  pub sound : (v : V) (c : List ℕ) → IsBytes c → d c ≡ Some v → C v c

IsBytes-right : (s t : List ℕ) → IsBytes (s ++ t) → IsBytes t
IsBytes-right [] t h = h
IsBytes-right (b ∷ s) t h = IsBytes-right s t (λ i. h (suc i))

IsBytes-left : (s t : List ℕ) → IsBytes (s ++ t) → IsBytes s
IsBytes-left [] t h i = omega arith
IsBytes-left (b ∷ s) t h zero = h 0
IsBytes-left (b ∷ s) t h (suc i) = IsBytes-left s t (λ j. h (suc j)) i

-- contents are octets where what begins with the value is
pub contents-bytes : (t : TagName) (f : Bool) (s c r : List ℕ) → IsBytes s → Spells (SpellsContents t f) s c r
    → IsBytes c
contents-bytes t f s c r bytes h =
    let header = header_octets (head-of t f (length c)) in
    let parts = h.parts ∙ ap (λ (p : List ℕ). p ++ r) h.spelled.octets in
    IsBytes-right header c (IsBytes-left (header ++ c) r (subst IsBytes parts bytes))

none-of : {V : Type 0} (C : V → List ℕ → Type 0) (c : List ℕ) (x : Option V)
    → ((v : V) → x ≡ Some v → C v c) → ((v : V) → C v c → ⊥) → x ≡ None
none-of C c None k none = refl
none-of C c (Some v) k none = absurd (none v (k v refl))

leaf-failed : {V : Type 0} (t : TagName) (C : V → List ℕ → Type 0) (d : List ℕ → Option V) (s : List ℕ)
    (e : DecodeError) → Decides C d → IsBytes s → IsLeafFault t false C s e → leaf_at t d s ≡ Err (error_number e)
unfolding leaf_at
leaf-failed t C d s e ds bytes h =
    elim (leaf-parts t false C s e h) [
      | inl wrong ↦ rw (value-failed t false s e bytes wrong) refl
      | inr (x, is, there) ↦
          let (c, r, sp, none) = subst (IsLeafFault t false C s) is h in
          let octets = contents-bytes t false s c r bytes sp in
          rw (value-read t false s c r sp, none-of C c (d c) (λ v e. ds.sound v c octets e) none, is) refl
    ]

pub leaf_law : {X V : Type 0} (view : X → V) (t : TagName) (C : V → List ℕ → Type 0) (d : List ℕ → Option V)
    (s r : List ℕ) (x : Result X DecodeError)
    → Decides C d → IsBytes s → ReadsLeaf view t C s r x → parsed view x r ≡ leaf_at t d s
unfolding leaf_at
leaf_law view t C d s r (Ok x) ds bytes h =
    let k = h.spells.spelled in
    sym (rw (
      value-read t false s k.contents r
          (record { front = h.spells.front; parts = h.spells.parts; spelled = k.value }),
      ds.complete (view x) k.contents k.spelled,
    ) refl)
leaf_law view t C d s r (Err e) ds bytes h = sym (leaf-failed t C d s e ds bytes h.kind)

-- what remains afterwards
pub leaf_moves : {X V : Type 0} (view : X → V) (t : TagName) (C : V → List ℕ → Type 0) (s r : List ℕ)
    (x : Result X DecodeError) → ReadsLeaf view t C s r x → Moves s r x
leaf_moves view t C s r (Ok x) h = leaf-shorter t false C s (view x) r h.spells
leaf_moves view t C s r (Err e) h = h.unchanged
