-- What a status says of an error, of another algorithm, and of what is made on a condition.
use Rattle.std.proofs.Common.{◌≡◌, ℕ, List, refl, subst, inl, inr, ◌<◌, ◌^◌, length, sym, zero, suc}
use Rattle.rpki_der.specs.declared.error.DecodeError.{DecodeError}
use Rattle.rpki_der.specs.Error.{error_number}
use Rattle.rpki_der.specs.Reading.{Refusal, TakesNoMemory, SpellsNothing, UnlessMemory}
use Rattle.rpki_der.specs.Format.{Format}
use Rattle.rpki_c.specs.Whole.{IsFrontRefused}
use Rattle.rpki.specs.PublicKey.{SpellsKey}
use Rattle.rpki_c.specs.Key.{IsKeyStatus, IsNoKey}
use Rattle.std.specs.Prelude.{◌↔◌}
use Rattle.rpki_c.specs.Made.{IsMade, IsMadeIf}
use Rattle.rpki.specs.StrictName.{IsPrintable, IsPrintableOrUtf8}
use Rattle.rpki.specs.declared.repository.x509.name.rule.NameRule.{NameRule}
use Rattle.rpki.proofs.RuleLaws.{named-not}
use Rattle.rpki_c.specs.Names.{IsOfProfile, BreaksProfile}

-- ---- What a status says of an error

-- a reader that allocates nothing returned the error, whose number is the status
pub front-refused : {V : Type 0} (F : Format V) {s r : List ℕ} {e : DecodeError} {status : ℕ}
    → (F.fault s DecodeError.OutOfMemory → ⊥) → Refusal F.spells F.fault s r e → status ≡ error_number e
    → IsFrontRefused F.spells (TakesNoMemory F.fault) s status
front-refused F {s} {e = e} never h number = record {
  error = e;
  number = number;
  refusal = record {
    unchanged = refl;
    refuses = h.refuses;
    kind = record { other = λ z. never (subst (F.fault s) z h.kind); kind = h.kind };
  };
}

-- ---- What the status of octets says that are not a public key

pub no-key : {K : List ℕ → DecodeError → Type 0} {s : List ℕ} {status : ℕ} (e : DecodeError)
    → UnlessMemory e (SpellsNothing SpellsKey s) × K s e → IsKeyStatus s e status → IsNoKey K s status
no-key e k (inl h) = inl h
no-key e k (inr h) = inr (h.1, record { error = e; number = h.0; nothing = k.0; kind = k.1 })

-- ---- What is made on one condition is made on another that says the same

pub made-if : {P Q : Type 0} {a b : List ℕ} {status : ℕ} {old new : List ℕ} {before after : ℕ} → P ↔ Q → a ≡ b
    → IsMadeIf (P × (length a < 2 ^ 63)) a status old new before after
    → IsMadeIf (Q × (length b < 2 ^ 63)) b status old new before after
made-if {P} {Q} {a} {b} {status} {old} {new} {before} {after} same e (inl (p, m)) = inl (
  (same.0 p.0, subst (λ (s : List ℕ). length s < 2 ^ 63) e p.1),
  subst (λ (s : List ℕ). IsMade s status old new before after) e m,
)
made-if same e (inr h) =
    inr (λ q. h.0 (same.1 q.0, subst (λ (s : List ℕ). length s < 2 ^ 63) (sym e) q.1), h.1, h.2)

-- ---- A name that breaks a rule of a profile is not of the profile

pub not-of : (profile : ℕ) (rule : NameRule) (s : List ℕ) → BreaksProfile profile rule s → IsOfProfile profile s → ⊥
not-of zero rule s h g = named-not IsPrintable rule s h g
not-of (suc n) rule s h g = named-not IsPrintableOrUtf8 rule s h g
