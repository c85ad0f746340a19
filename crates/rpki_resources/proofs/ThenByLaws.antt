-- Readers of a part, and of others that its value says.
use Rattle.std.proofs.Common.{◌≡◌, ℕ, List, refl, subst}
use Rattle.rpki_der.specs.declared.error.DecodeError.{DecodeError}
use Rattle.rpki_der.specs.Reading.{Accepts, Refusal}
use Rattle.rpki_der.specs.FirstFault.FirstFault.{AtPart, Later}
use Rattle.rpki_der.specs.Format.{Format, then_by}
use Rattle.rpki_der.proofs.ReadingLaws.{UnlessMemory-weaker}
use Rattle.rpki_der.proofs.PartsLaws.{Kind, first-of, pair-is}
use Rattle.rpki_der.proofs.FormatLaws.{Fails, Gives}

-- the cursor was put back, or had not moved
pub stayed : {V : Type 0} {G : V → List ℕ → Type 0} {K : Kind} {s r : List ℕ} {e : DecodeError} → Refusal G K s r e
    → Refusal G K s s e
stayed h = record { unchanged = refl; refuses = h.refuses; kind = h.kind }

module _ {A B : Type 0} (F : Format A) (P : A → Format B) {s : List ℕ} where
  -- the first part isn't there
  pub first-by : {r : List ℕ} {e : DecodeError} → Refusal F.spells F.fault s r e
      → Fails (then_by F P).spells (then_by F P).fault s e
  first-by {r} {e} h = record {
    nothing = UnlessMemory-weaker e (λ none x k. none x.0 k.second (first-of k)) h.refuses;
    kind = AtPart h.refuses h.kind;
  }

  module _ {m : List ℕ} {a : A} (one : Accepts F.spells s a m) where
    -- what follows is what the first part says
    pub behind : (x : A × B) → (then_by F P).spells x s → (x.0 ≡ a) × (P a).spells x.1 m
    behind x k =
        let is = one.only x.0 k.second (first-of k) in
        let two = subst (λ (y : A). (P y).spells x.1 k.second) is.0 k.two in
        (is.0, subst (λ (q : List ℕ). (P a).spells x.1 q) is.1 two)

    -- it is there, and one of the others isn't
    pub after-by : {e : DecodeError} → Fails (P a).spells (P a).fault m e
        → Fails (then_by F P).spells (then_by F P).fault s e
    after-by {e} h = record {
      nothing = UnlessMemory-weaker e (λ none x k. none x.1 (behind x k).1) h.nothing;
      kind = Later a m one h.kind;
    }

    -- it is there, and so are the others
    pub and-by : {r : List ℕ} {b : B} → Gives (P a).spells (P a).fault m r b
        → Gives (then_by F P).spells (then_by F P).fault s r (a, b)
    and-by {r} {b} h = record {
      all = λ end.
          let is = h.all end in (
            record {
              first = one.spells.front;
              second = m;
              parts = one.spells.parts;
              one = one.spells.spelled;
              two = is.0;
            },
            λ x k. let q = behind x k in pair-is x a b q.0 (is.1 x.1 q.1),
          );
      more = λ some.
          let k = h.more some in (λ x q. k.0 x.1 (behind x q).1, Later a m one k.1);
    }
