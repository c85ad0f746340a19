-- How readings are put together: a value that stands for another, and two ends; and that reading allocates nothing.
use Rattle.std.proofs.Common.{◌≡◌, inl, inr, ℕ, List, [], ◌∷◌, false, true, refl, subst}
use Rattle.rpki_der.specs.declared.error.DecodeError.{DecodeError}
use Rattle.rpki_der.specs.declared.error.ContentError.{ContentError}
use Rattle.rpki_der.specs.declared.error.DecodeError.TheVariants.{Content, OutOfMemory}
use Rattle.rpki_der.specs.TagName.{TagName}
use Rattle.rpki_der.specs.Reading.{Spells, Accepts, Refusal, SpellsNothing}
use Rattle.rpki_der.specs.Values.{HasTag}
use Rattle.rpki_der.specs.FirstFault.{IsEndFault}
use Rattle.rpki_der.specs.FirstFault.FirstFault.{AtPart, Later}
use Rattle.rpki_der.specs.Format.{Format, leaf, around, then, then_by, only, either}
use Rattle.rpki_der.proofs.FormatLaws.{Fails, Gives, first, last, after, and, all}
use Rattle.rpki_der.proofs.FirstFaultLaws.{first-no-memory, end-no-memory, inside-no-memory}
use Rattle.rpki_der.proofs.FrontLaws.{one-tag}
use Rattle.rpki_der.proofs.LeavesLaws.{leaf-no-memory}
use Rattle.rpki_der.proofs.ReadingLaws.{UnlessMemory-weaker}
use Rattle.rpki_resources.specs.Composing.{standing_for, ends}

-- ---- a value that stands for another

module _ {V O : Type 0} (R : V → O → Type 0) (F : Format O) {s : List ℕ} where
  pub value-of : {v : V} {r : List ℕ} (h : Spells (standing_for R F).spells s v r)
      → Spells F.spells s h.spelled.value r
  value-of h = record { front = h.front; parts = h.parts; spelled = h.spelled.spelled }

  pub standing-refused : {r : List ℕ} {e : DecodeError} → Refusal F.spells F.fault s r e
      → Refusal (standing_for R F).spells (standing_for R F).fault s r e
  standing-refused {r} {e} h = record {
    unchanged = h.unchanged;
    refuses = UnlessMemory-weaker e (λ none v q k. none k.spelled.value q (value-of k)) h.refuses;
    kind = h.kind;
  }

-- that other is a value of another tag
pub standing-apart : {V O : Type 0} (R : V → O → Type 0) (F : Format O) (t u : TagName) → (t ≡ u → ⊥)
    → ((s : List ℕ) (o : O) (r : List ℕ) → Spells F.spells s o r → HasTag u s)
    → (s : List ℕ) (v : V) (r : List ℕ) → Spells (standing_for R F).spells s v r → HasTag t s → ⊥
standing-apart R F t u other tagged s v r h there =
    other (one-tag s t u there (tagged s h.spelled.value r (value-of R F h)))

-- ---- two ends

abbrev FailsTwo : {A : Type 0} → Format A → List ℕ → DecodeError → Type 0
FailsTwo F s e = Fails (then F (only F)).spells (then F (only F)).fault s e

module _ {A V : Type 0} (R : V → A × A → Type 0) (F : Format A) {s : List ℕ} where
  no-ends : SpellsNothing (then F (only F)).spells s → SpellsNothing (ends R F).spells s
  no-ends none v k = none k.value k.spelled

  pub low-refused : {r : List ℕ} {e : DecodeError} → Refusal F.spells F.fault s r e
      → Fails (ends R F).spells (ends R F).fault s e
  low-refused {r} {e} h =
      let k : FailsTwo F s e = first h in
      record { nothing = UnlessMemory-weaker e no-ends k.nothing; kind = AtPart h.refuses h.kind }

  module _ {m : List ℕ} {a : A} (one : Accepts F.spells s a m) where
    pub high-refused : {r : List ℕ} {e : DecodeError} → Refusal F.spells F.fault m r e
        → Fails (ends R F).spells (ends R F).fault s e
    high-refused {r} {e} h =
        let k : FailsTwo F s e = after one (last h) in
        record { nothing = UnlessMemory-weaker e no-ends k.nothing; kind = Later a m one (AtPart h.refuses h.kind) }

    module _ {r : List ℕ} {b : A} (two : Accepts F.spells m b r) where
      both : Gives (then F (only F)).spells (then F (only F)).fault s r (a, b)
      both = and one (all two)

      pub ends-read : {v : V} → R v (a, b) → ((w : V) → R w (a, b) → w ≡ v)
          → Gives (ends R F).spells (ends R F).fault s r v
      ends-read {v} is unique = record {
        all = λ end.
            let k = both.all end in (
              record { value = (a, b); spelled = k.0; stands = is },
              λ w j. unique w (subst (λ (x : A × A). R w x) (k.1 j.value j.spelled) j.stands),
            );
        more = λ some.
            (no-ends (both.more some).0, Later a m one (Later b r two (inr ((v, is), (some, refl)))));
      }

      pub ends-of-nothing : (x : ContentError) → ((w : V) → R w (a, b) → ⊥)
          → Fails (ends R F).spells (ends R F).fault s (Content x)
      ends-of-nothing x none = record {
        nothing = nothing r both;
        kind = Later a m one (Later b r two (inl (none, tt)));
      } where
        nothing : (q : List ℕ) → Gives (then F (only F)).spells (then F (only F)).fault s q (a, b)
            → SpellsNothing (ends R F).spells s
        nothing [] h = λ v k. none v (subst (λ (x : A × A). R v x) ((h.all refl).1 k.value k.spelled) k.stands)
        nothing (y ∷ ys) h = no-ends (h.more (λ z. cc)).0

-- ---- no error is an allocation failure

abbrev pub NeverFails : {V : Type 0} → Format V → Type 0
NeverFails F = (s : List ℕ) → F.fault s OutOfMemory → ⊥

pub leaf-never : {V : Type 0} (t : TagName) (C : V → List ℕ → Type 0) → NeverFails (leaf t C)
leaf-never t C s h = leaf-no-memory t false C s OutOfMemory h refl

pub around-never : {V : Type 0} (t : TagName) (P : Format V) → NeverFails P → NeverFails (around t P)
around-never t P p s h = inside-no-memory t true P.fault s p h

pub only-never : {V : Type 0} (F : Format V) → NeverFails F → NeverFails (only F)
only-never F f s h =
    first-no-memory F.spells F.fault (λ v. IsEndFault) s (f s) (λ v r k. end-no-memory r k) h

pub then-by-never : {A B : Type 0} (F : Format A) (P : A → Format B) → NeverFails F
    → ((a : A) → NeverFails (P a)) → NeverFails (then_by F P)
then-by-never F P f p s h = first-no-memory F.spells F.fault (λ a. (P a).fault) s (f s) p h

pub either-never : {V : Type 0} (t : TagName) (F G : Format V) → NeverFails F → NeverFails G
    → NeverFails (either t F G)
either-never t F G f g s (inl h) = f s h.1
either-never t F G f g s (inr h) = g s h.1

pub ends-never : {A V : Type 0} (R : V → A × A → Type 0) (F : Format A) → NeverFails F → NeverFails (ends R F)
ends-never R F f s (AtPart none k) = f s k
ends-never R F f s (Later a m one (AtPart none k)) = f m k
ends-never R F f s (Later a m one (Later b r two (inl k))) = k.1
ends-never R F f s (Later a m one (Later b r two (inr k))) = end-no-memory r k.1
