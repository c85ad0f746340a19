-- Checks of profiles: what they return at their ends.
use Rattle.std.proofs.Common.{◌≡◌, ◌∙◌, ℕ, Bool, true, false, IsTrue, inl, inr, List, [], length, Option, Some, None}
use Rattle.std.proofs.Common.{refl, sym, ap}
use Rattle.std.specs.Prelude.{◌↔◌, ◌==◌, not}
use Rattle.std.proofs.lemmas.Bool.{false≢true}
use Rattle.std.proofs.lemmas.Bool.Decides.{Decides-eqb}
use Rattle.std.proofs.lemmas.List.{nil_from_length}
use Rattle.rpki_der.specs.declared.error.DecodeError.{DecodeError}
use Rattle.rpki.specs.declared.repository.error.ValidationError.{ValidationError}
use Rattle.rpki.specs.ExtensionValue.{ExtensionParts}
use Rattle.rpki_cert.specs.declared.profile.rule.CertRule.{CertRule}
use Rattle.rpki_cert.specs.Known.{Says, SaysOnly, IsFoundWrong, IsOtherwise}
use Rattle.rpki_cert.specs.RuleError.{SaysRule, SaysFound}
use Rattle.rpki_text.specs.RsyncText.{rsync_refusal, uri_of, relative}
use Rattle.rpki_cert.specs.Access.{flat, SaysUri}
use Rattle.rpki_cert.specs.RuleWords.{SaysSomeUri, IsBelow}

module _ (G : Option (List ℕ) → List ℕ → Type 0) (found : Option ExtensionParts) where
  one-uri : (u w : Option (List ℕ)) → SaysUri G found u → SaysUri G found w → u ≡ w
  one-uri u w h k = h.2 ∙ ap flat (k.1.1 h.0 h.1.0) ∙ sym k.2

  some-none : (uri : List ℕ) → ◌≡◌ {A = Option (List ℕ)} (Some uri) None → ⊥
  some-none uri e = cc

  -- there is no URI
  pub uri-missing : SaysUri G found None → SaysSomeUri G found → ⊥
  uri-missing h k = some-none k.0 (one-uri (Some k.0) None k.1 h)

-- ---- a check of what an extension says

module _ {V : Type 0} (critical : Bool) (G : V → List ℕ → Type 0) (K : List ℕ → DecodeError → Type 0)
    (E : ValidationError → Type 0) (found : Option ExtensionParts) where
  -- it says something else, or isn't there
  pub says-other : (P : Type 0) (v : Option V) (e : ValidationError) → SaysOnly critical G found v
      → (P → (w : Option V) × Says critical G found w × (w ≡ v → ⊥)) → E e
      → (P → ⊥) × IsOtherwise critical G K found E e
  says-other P v e h f says = (λ p. let k = f p in k.2 (h.1 k.0 k.1), inl (λ none. none v h.0, says))

  -- it is wrong
  pub says-wrong : (P : Type 0) (e : ValidationError) → IsFoundWrong critical G K found e
      → (P → (w : Option V) × Says critical G found w) → (P → ⊥) × IsOtherwise critical G K found E e
  says-wrong P e h f = (λ p. let k = f p in h.0 k.0 k.1, inr h.1)

-- the same by a rule
module _ {V : Type 0} (critical : Bool) (G : V → List ℕ → Type 0) (K : List ℕ → DecodeError → Type 0) (rule : CertRule)
    (found : Option ExtensionParts) where
  pub found-other : (P : Type 0) (v : Option V) (e : ValidationError) → SaysOnly critical G found v
      → (P → (w : Option V) × Says critical G found w × (w ≡ v → ⊥)) → SaysRule rule e
      → (P → ⊥) × SaysFound critical G K rule found e
  found-other = says-other critical G K (SaysRule rule) found

  pub found-wrong : (P : Type 0) (e : ValidationError) → IsFoundWrong critical G K found e
      → (P → (w : Option V) × Says critical G found w) → (P → ⊥) × SaysFound critical G K rule found e
  found-wrong = says-wrong critical G K (SaysRule rule) found

-- there is no URI
pub uri-other : (G : Option (List ℕ) → List ℕ → Type 0) (K : List ℕ → DecodeError → Type 0) (rule : CertRule)
    (found : Option ExtensionParts) (e : ValidationError) → SaysUri G found None → SaysRule rule e
    → (SaysSomeUri G found → ⊥) × SaysFound false G K rule found e
uri-other G K rule found e h says =
    found-other false G K rule found (SaysSomeUri G found) h.0 e h.1
    (λ k. (k.1.0, k.1.1.0, λ same. uri-missing G found h k)) says

-- the extension is wrong, and has no URI
pub uri-wrong : (G : Option (List ℕ) → List ℕ → Type 0) (K : List ℕ → DecodeError → Type 0) (rule : CertRule)
    (found : Option ExtensionParts) (e : ValidationError) → IsFoundWrong false G K found e
    → (SaysSomeUri G found → ⊥) × SaysFound false G K rule found e
uri-wrong G K rule found e h = found-wrong false G K rule found (SaysSomeUri G found) e h (λ k. (k.1.0, k.1.1.0))

-- ---- a URI below another one

pub is-empty : (b : Bool) (path : List ℕ) → b ≡ (length path == 0) → IsTrue b ↔ (path ≡ [])
is-empty b path e = (
  λ z. nil_from_length path ((Decides-eqb (length path) 0).0 (sym e ∙ z)),
  λ h. e ∙ (Decides-eqb (length path) 0).1 (ap (λ (xs : List ℕ). length xs) h),
)

module _ (base text path : List ℕ) where
  pub below-there : (b : Bool) → rsync_refusal base ≡ None → rsync_refusal text ≡ None
      → Some path ≡ relative (uri_of text) (uri_of base) → IsTrue b ↔ (path ≡ []) → IsTrue (not b) ↔ IsBelow base text
  below-there true r s leads empty = (
    λ z. absurd (false≢true z),
    λ h. absurd (h.some (one-path h.path (leads ∙ h.leads) (empty.0 refl))),
  ) where
    one-path : (other : List ℕ) → ◌≡◌ {A = Option (List ℕ)} (Some path) (Some other) → path ≡ [] → other ≡ []
    one-path other e end = cc
  below-there false r s leads empty = (
    λ z. record { base_uri = r; text_uri = s; path = path; leads = sym leads; some = λ end. false≢true (empty.1 end) },
    λ h. refl,
  )
