-- Readers of a CHOICE by its first tag, and of values of which something has to hold.
use Rattle.std.proofs.Common.{◌≡◌, ◌⊎◌, ℕ, List, Result, Ok, Err, inl, inr, subst}
use Rattle.rpki_der.specs.declared.error.ContentError.{ContentError}
use Rattle.rpki_der.specs.declared.error.DecodeError.{DecodeError}
use Rattle.rpki_der.specs.declared.error.DecodeError.TheVariants.{Content}
use Rattle.rpki_der.specs.TagName.{TagName}
use Rattle.rpki_der.specs.Reading.{Spells, Accepts, Refusal}
use Rattle.rpki_der.specs.Values.{HasTag}
use Rattle.rpki_der.specs.FirstFault.FirstFault.{AtPart, Later}
use Rattle.rpki_der.specs.Format.{Format, either, such, Takes}
use Rattle.rpki_der.proofs.ReadingLaws.{UnlessMemory-weaker}

-- ---- a choice: a value of F begins with the tag, and one of G does not

module _ {X V : Type 0} (view : X → V) (t : TagName) (F G : Format V)
    (begins : (s : List ℕ) (v : V) (r : List ℕ) → Spells F.spells s v r → HasTag t s)
    (apart : (s : List ℕ) (v : V) (r : List ℕ) → Spells G.spells s v r → HasTag t s → ⊥) where
  one-of : (s : List ℕ) (v : V) (r : List ℕ) → Spells (either t F G).spells s v r
      → Spells F.spells s v r ⊎ Spells G.spells s v r
  one-of s v r h =
      elim h.spelled [
        | inl g ↦ inl (record { front = h.front; parts = h.parts; spelled = g })
        | inr g ↦ inr (record { front = h.front; parts = h.parts; spelled = g })
      ]

  first-of : (s : List ℕ) (v : V) (r : List ℕ) → HasTag t s → Spells (either t F G).spells s v r
      → Spells F.spells s v r
  first-of s v r there h = elim (one-of s v r h) [ inl g ↦ g | inr g ↦ absurd (apart s v r g there) ]

  second-of : (s : List ℕ) (v : V) (r : List ℕ) → (HasTag t s → ⊥) → Spells (either t F G).spells s v r
      → Spells G.spells s v r
  second-of s v r not h = elim (one-of s v r h) [ inl g ↦ absurd (not (begins s v r g)) | inr g ↦ g ]

  -- the tag is there, and F was read; it isn't, and G was
  pub takes-first : (s r : List ℕ) (x : Result X DecodeError) → HasTag t s → Takes view F s r x
      → Takes view (either t F G) s r x
  takes-first s r (Ok x) there a = record {
    spells = record { front = a.spells.front; parts = a.spells.parts; spelled = inl a.spells.spelled };
    only = λ w q h. a.only w q (first-of s w q there h);
  }
  takes-first s r (Err e) there h = record {
    unchanged = h.unchanged;
    refuses = UnlessMemory-weaker e (λ none v q k. none v q (first-of s v q there k)) h.refuses;
    kind = inl (there, h.kind);
  }

  pub takes-second : (s r : List ℕ) (x : Result X DecodeError) → (HasTag t s → ⊥) → Takes view G s r x
      → Takes view (either t F G) s r x
  takes-second s r (Ok x) not a = record {
    spells = record { front = a.spells.front; parts = a.spells.parts; spelled = inr a.spells.spelled };
    only = λ w q h. a.only w q (second-of s w q not h);
  }
  takes-second s r (Err e) not h = record {
    unchanged = h.unchanged;
    refuses = UnlessMemory-weaker e (λ none v q k. none v q (second-of s v q not k)) h.refuses;
    kind = inr (not, h.kind);
  }

-- ---- a value v stands for the value of F where R says so

module _ {V O : Type 0} (R : V → O → Type 0) (F : Format O) {s : List ℕ} where
  value-of : {v : V} {r : List ℕ} (h : Spells (such R F).spells s v r) → Spells F.spells s h.spelled.value r
  value-of h = record { front = h.front; parts = h.parts; spelled = h.spelled.spelled }

  -- it does, and no other value does
  pub such-read : {o : O} {r : List ℕ} (v : V) → Accepts F.spells s o r → R v o → ((w : V) → R w o → w ≡ v)
      → Accepts (such R F).spells s v r
  such-read {o} v a is one = record {
    spells = record {
      front = a.spells.front;
      parts = a.spells.parts;
      spelled = record { value = o; spelled = a.spells.spelled; stands = is };
    };
    only = λ w q h.
        let e = a.only h.spelled.value q (value-of h) in
        (one w (subst (λ (x : O). R w x) e.0 h.spelled.stands), e.1);
  }

  -- there is no value of F
  pub such-refused : {r : List ℕ} {e : DecodeError} → Refusal F.spells F.fault s r e
      → Refusal (such R F).spells (such R F).fault s r e
  such-refused {r} {e} h = record {
    unchanged = h.unchanged;
    refuses = UnlessMemory-weaker e (λ none v q k. none k.spelled.value q (value-of k)) h.refuses;
    kind = AtPart h.refuses h.kind;
  }

  -- nothing stands for it: an error of contents
  pub such-nothing : {o : O} {r q : List ℕ} (x : ContentError) → q ≡ s → Accepts F.spells s o r
      → ((v : V) → R v o → ⊥) → Refusal (such R F).spells (such R F).fault s q (Content x)
  such-nothing {o} {r} x same a none = record {
    unchanged = same;
    refuses = λ v p k.
        let e = a.only k.spelled.value p (value-of k) in
        none v (subst (λ (y : O). R v y) e.0 k.spelled.stands);
    kind = Later o r a (none, tt);
  }
