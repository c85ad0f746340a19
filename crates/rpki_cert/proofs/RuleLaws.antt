-- The rules of profiles: which is broken first.
use Rattle.std.proofs.Common.{◌≡◌, ◌∙◌, Bool, true, List, [], ◌∷◌, ◌++◌, All, Result, Ok, Err, refl, sym, ap, subst}
use Rattle.std.proofs.Common.{ℕ, append_assoc, take, drop}
use Rattle.std.specs.Prelude.{◌↔◌, IsErr, IsErrAnd}
use Rattle.std.proofs.lemmas.List.{take-append-drop}
use Rattle.std.proofs.lemmas.List.Elements.{All-append, All-cons, All-nil, All-head, All-tail, recursion_from_All}
use Rattle.rpki.specs.declared.repository.error.ValidationError.{ValidationError}
use Rattle.rpki_cert.specs.declared.profile.Profile.{Profile}
use Rattle.rpki_cert.specs.declared.profile.Profile.TheVariants.{Ta}
use Rattle.rpki_cert.specs.declared.profile.in_order.Refusal.{Refusal}
use Rattle.rpki_cert.specs.declared.profile.rule.CertRule.{CertRule}
use Rattle.rpki_cert.specs.declared.profile.rule.CertRule.TheVariants.{NoRevocationList, NoIssuerCertificate}
use Rattle.rpki_cert.specs.declared.profile.rule.CertRule.TheVariants.{SelfIssued}
use Rattle.rpki_cert.specs.declared.profile.rule.CertRule.TheVariants.{OwnAuthority, OwnResources}
use Rattle.rpki_cert.specs.Cert.{TbsParts}
use Rattle.rpki_cert.specs.ExtensionContent.{SpellsPolicies}
use Rattle.rpki_cert.specs.Known.{certificate_policies}
use Rattle.rpki_cert.specs.Profile.{common_rules, subject_rules, authority_rules, repository_rules, own_rules}
use Rattle.rpki_cert.specs.Profile.{HasProfile}
use Rattle.rpki_cert.specs.ResourceExtensions.{AreWellFormed, AreOwn}
use Rattle.rpki_cert.specs.RuleWords.{HasSome}
use Rattle.rpki_cert.specs.Rule.{Obeys, IsFirstBroken}
use Rattle.rpki_cert.specs.RuleError.{BreaksWith, ChecksBy, IsRuleError, TestsRules}
use Rattle.rpki_x509.proofs.TriedLaws.{tried-fault}

-- a test that says whether P holds
pub by-test : (P Q : Type 0) (E : ValidationError → Type 0) (r : Result (Unit {0}) ValidationError) → Q ↔ P
    → ChecksBy Q E r → ChecksBy P E r
by-test P Q E (Ok u) same h = same.0 h
by-test P Q E (Err e) same h = (λ p. h.0 (same.1 p), h.1)

module _ (strict : Bool) (t : TbsParts) where
  -- a rule that is tested alone
  pub alone-obeyed : (rule : CertRule) → Obeys strict t rule → All (Obeys strict t) (rule ∷ [])
  alone-obeyed rule h = All-cons (Obeys strict t) rule [] h (All-nil (Obeys strict t))

  pub alone-broken : (rule : CertRule) (e : ValidationError) → (Obeys strict t rule → ⊥) × IsRuleError t rule e
      → BreaksWith strict t (rule ∷ []) rule e
  alone-broken rule e h = (
    record {
      before = [];
      after = [];
      parts = refl;
      obeyed = All-nil (Obeys strict t);
      broken = h.0;
    },
    h.1,
  )

  -- broken among the first n of the rules
  broken-among : (xs ys : List CertRule) (x : Refusal) → BreaksWith strict t xs x.rule x.error
      → BreaksWith strict t (xs ++ ys) x.rule x.error
  broken-among xs ys x h = (
    record {
      before = h.0.before;
      after = h.0.after ++ ys;
      parts = ap (λ (l : List CertRule). l ++ ys) h.0.parts ∙ append_assoc h.0.before (x.rule ∷ h.0.after) ys;
      obeyed = h.0.obeyed;
      broken = h.0.broken;
    },
    h.1,
  )

  -- the others are tested where the first are obeyed
  tests-both : (xs ys : List CertRule) (r : Result (Unit {0}) Refusal) → All (Obeys strict t) xs
      → TestsRules strict t ys r → TestsRules strict t (xs ++ ys) r
  tests-both xs ys (Ok u) all h = All-append (Obeys strict t) xs ys all h
  tests-both xs ys (Err x) all h = (
    record {
      before = xs ++ h.0.before;
      after = h.0.after;
      parts = ap (λ (l : List CertRule). xs ++ l) h.0.parts
          ∙ sym (append_assoc xs h.0.before (x.rule ∷ h.0.after));
      obeyed = All-append (Obeys strict t) xs h.0.before all h.0.obeyed;
      broken = h.0.broken;
    },
    h.1,
  )

  -- a `?` returns that one of the first n rules is broken
  pub stops : (n : ℕ) (rules : List CertRule) (x : Refusal) (r : Result (Unit {0}) Refusal)
      → IsErr r × IsErrAnd r (λ e. e ≡ x) → BreaksWith strict t (take n rules) x.rule x.error
      → TestsRules strict t rules r
  stops n rules x r tried h = tried-fault (λ _. All (Obeys strict t) rules)
      (λ e. BreaksWith strict t rules e.rule e.error) x r tried
      (subst (λ (l : List CertRule). BreaksWith strict t l x.rule x.error) (take-append-drop n rules)
      (broken-among (take n rules) (drop n rules) x h))

  -- the first n are obeyed
  pub goes-on : (n : ℕ) (rules : List CertRule) (r : Result (Unit {0}) Refusal)
      → All (Obeys strict t) (take n rules) → TestsRules strict t (drop n rules) r → TestsRules strict t rules r
  goes-on n rules r all h = subst (λ (l : List CertRule). TestsRules strict t l r) (take-append-drop n rules)
      (tests-both (take n rules) (drop n rules) r all h)

  one-of : (xs ys : List CertRule) (rule : CertRule) → All (Obeys strict t) (xs ++ rule ∷ ys) → Obeys strict t rule
  one-of [] ys rule all = All-head (Obeys strict t) rule ys all
  one-of (x ∷ xs) ys rule all = one-of xs ys rule (All-tail (Obeys strict t) x (xs ++ rule ∷ ys) all)

  -- a rule that is broken is one of them
  pub not-all : (rules : List CertRule) (rule : CertRule) → IsFirstBroken strict t rules rule
      → All (Obeys strict t) rules → ⊥
  not-all rules rule h all = h.broken (one-of h.before h.after rule
      (subst (λ (xs : List CertRule). All (Obeys strict t) xs) h.parts all))

  -- every profile has the policy, and resources in canonical form
  has-common : (own : List CertRule) → All (Obeys strict t) (common_rules ++ own)
      → HasSome certificate_policies true SpellsPolicies t.extensions × AreWellFormed t.extensions
  has-common own all =
      let b = recursion_from_All (Obeys strict t) (common_rules ++ own) all in
      (b.1.1.1.1.1.1.0, b.1.1.1.1.1.1.1.1.1.0)

  pub has-policy : (profile : Profile) → HasProfile profile strict t
      → HasSome certificate_policies true SpellsPolicies t.extensions × AreWellFormed t.extensions
  has-policy profile = has-common (own_rules profile)

  -- a trust anchor has resources of its own
  pub has-own : HasProfile Ta strict t → AreOwn t.extensions
  has-own all = one-of (common_rules ++ subject_rules ++ authority_rules ++ NoRevocationList ∷ NoIssuerCertificate
      ∷ repository_rules ++ SelfIssued ∷ OwnAuthority ∷ []) [] OwnResources all
