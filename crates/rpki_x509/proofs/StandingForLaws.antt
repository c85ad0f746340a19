-- Readers of a value that stands for another, whose octets are those of the other: what N says is the error where none
-- stands for it.
use Rattle.std.proofs.Common.{◌≡◌, ℕ, List, refl, subst}
use Rattle.rpki_der.specs.declared.error.DecodeError.{DecodeError}
use Rattle.rpki_der.specs.Reading.{Spells, Accepts, Refusal, UnlessMemory}
use Rattle.rpki_der.specs.FirstFault.{FirstFault}
use Rattle.rpki_der.specs.FirstFault.FirstFault.{AtPart, Later}
use Rattle.rpki_der.specs.Format.{SpellsFor}
use Rattle.rpki_der.proofs.ReadingLaws.{UnlessMemory-weaker}

module _ {V O : Type 0} (R : V → O → Type 0) (G : O → List ℕ → Type 0) (K : List ℕ → DecodeError → Type 0)
    (N : O → List ℕ → DecodeError → Type 0) {s : List ℕ} where
  value-of : {v : V} {r : List ℕ} (h : Spells (SpellsFor G R) s v r) → Spells G s h.spelled.value r
  value-of h = record { front = h.front; parts = h.parts; spelled = h.spelled.spelled }

  -- there is no value of G
  pub none-there : {r : List ℕ} {e : DecodeError} → Refusal G K s r e
      → Refusal (SpellsFor G R) (FirstFault G K N) s s e
  none-there {r} {e} h = record {
    unchanged = refl;
    refuses = UnlessMemory-weaker e (λ none v q k. none k.spelled.value q (value-of k)) h.refuses;
    kind = AtPart h.refuses h.kind;
  }

  -- nothing stands for it
  pub none-stands : {o : O} {r : List ℕ} {e : DecodeError} → Accepts G s o r → UnlessMemory e ((v : V) → R v o → ⊥)
      → N o r e → Refusal (SpellsFor G R) (FirstFault G K N) s s e
  none-stands {o} {r} {e} a none k = record {
    unchanged = refl;
    refuses = UnlessMemory-weaker e
        (λ no v p h.
        let i = a.only h.spelled.value p (value-of h) in
        no v (subst (λ (y : O). R v y) i.0 h.spelled.stands))
        none;
    kind = Later o r a k;
  }

  -- v stands for it, and no other value does
  pub one-stands : {o : O} {r : List ℕ} (v : V) → Accepts G s o r → R v o → ((w : V) → R w o → w ≡ v)
      → Accepts (SpellsFor G R) s v r
  one-stands {o} v a is one = record {
    spells = record {
      front = a.spells.front;
      parts = a.spells.parts;
      spelled = record { value = o; spelled = a.spells.spelled; stands = is };
    };
    only = λ w q h.
        let e = a.only h.spelled.value q (value-of h) in
        (one w (subst (λ (x : O). R w x) e.0 h.spelled.stands), e.1);
  }
