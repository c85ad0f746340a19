use Rattle.std.proofs.Common.{◌≡◌, ◌∙◌, ℕ, List, Result, Ok, Err, refl, sym, ap, rules}
use Rattle.rpki_der.specs.declared.error.DecodeError.{DecodeError}
use Rattle.rpki_der.specs.TagName.{sequence}
use Rattle.rpki_der.specs.Reading.{Spells, Reads}
use Rattle.rpki_der.specs.Format.{around, only}
use Rattle.rpki_der.proofs.FormatLaws.{takes-around-one}
use Rattle.rpki_der.proofs.ReadingLaws.{UnlessMemory-weaker}
use Rattle.rpki_cert.specs.ExtensionContent.{policies_content, policy_value}
use Rattle.rpki_cert.proofs.extension.policy.Overclaim.take_from.Goals as goal

-- a reader of a grammar whose values are others by another name
module _ {V W : Type 0} (f : V → W) (back : W → V) (same : (v : V) → back (f v) ≡ v) (G : W → List ℕ → Type 0) where
  spelled-as : (s : List ℕ) (v : V) (r : List ℕ) → Spells (λ (v : V). G (f v)) s v r → Spells G s (f v) r
  spelled-as s v r h = record { front = h.front; parts = h.parts; spelled = h.spelled }

  reads-as : (K : List ℕ → DecodeError → Type 0) (s r : List ℕ) (x : Result V DecodeError) → Reads f G K s r x
      → Reads (λ v. v) (λ (v : V). G (f v)) K s r x
  reads-as K s r (Ok x) h = record {
    spells = record { front = h.spells.front; parts = h.spells.parts; spelled = h.spells.spelled };
    only = λ w q k. let e = h.only (f w) q (spelled-as s w q k) in (sym (same w) ∙ ap back e.0 ∙ same x, e.1);
  }
  reads-as K s r (Err e) h = record {
    unchanged = h.unchanged;
    refuses =
        UnlessMemory-weaker e (λ none x q k. none (f x) q (spelled-as s x q k)) h.refuses;
    kind = h.kind;
  }

pub returns : goal.returns
returns c =
    reads-as (λ p. (p, tt)) (λ w. w.0) (λ v. refl) (around sequence (only policy_value)).spells policies_content.fault
    _ _ _
    (takes-around-one (λ p. (p, tt)) sequence policy_value _ (λ b a x h. search rules) _ _ _ c.in_sequence.ensures)
