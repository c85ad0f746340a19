-- Which rule of a profile is broken first.
use Rattle.std.proofs.Common.{◌≡◌, Bool, List, [], ◌∷◌, ◌++◌, All, sym, subst, ◌∙◌}
use Rattle.std.proofs.lemmas.List.Elements.{All-head, All-tail}
use Rattle.rpki.specs.declared.repository.error.ValidationError.{ValidationError}
use Rattle.rpki_cert.specs.declared.profile.rule.CertRule.{CertRule}
use Rattle.rpki_cert.specs.Cert.{TbsParts}
use Rattle.rpki_cert.specs.Rule.{Obeys, IsFirstBroken}
use Rattle.rpki_cert.specs.RuleError.{IsRuleError, IsFirstError, BreaksWith}

same-head : (x y : CertRule) (xs ys : List CertRule) → x ∷ xs ≡ y ∷ ys → x ≡ y
same-head x y xs ys e = cc

same-tail : (x y : CertRule) (xs ys : List CertRule) → x ∷ xs ≡ y ∷ ys → xs ≡ ys
same-tail x y xs ys e = cc

module _ (strict : Bool) (t : TbsParts) where
  -- rules that are broken, after rules that are obeyed
  same-rule : (before after first rest : List CertRule) (rule other : CertRule)
      → before ++ rule ∷ after ≡ first ++ other ∷ rest → All (Obeys strict t) before → All (Obeys strict t) first
      → (Obeys strict t rule → ⊥) → (Obeys strict t other → ⊥) → rule ≡ other
  same-rule [] after [] rest rule other e h k b d = same-head rule other after rest e
  same-rule [] after (x ∷ first) rest rule other e h k b d =
      absurd (b (subst (Obeys strict t) (sym (same-head rule x after (first ++ other ∷ rest) e))
      (All-head (Obeys strict t) x first k)))
  same-rule (x ∷ before) after [] rest rule other e h k b d =
      absurd (d (subst (Obeys strict t) (same-head x other (before ++ rule ∷ after) rest e)
      (All-head (Obeys strict t) x before h)))
  same-rule (x ∷ before) after (y ∷ first) rest rule other e h k b d =
      same-rule before after first rest rule other
      (same-tail x y (before ++ rule ∷ after) (first ++ other ∷ rest) e) (All-tail (Obeys strict t) x before h)
      (All-tail (Obeys strict t) y first k) b d

  one-first : (rules : List CertRule) (rule other : CertRule) → IsFirstBroken strict t rules rule
      → IsFirstBroken strict t rules other → rule ≡ other
  one-first rules rule other g h =
      same-rule g.before g.after h.before h.after rule other (sym g.parts ∙ h.parts) g.obeyed h.obeyed g.broken
      h.broken

  -- the error is that of the first rule
  pub breaks-with : (rules : List CertRule) (rule : CertRule) (e : ValidationError)
      → IsFirstBroken strict t rules rule → IsFirstError strict t rules e → BreaksWith strict t rules rule e
  breaks-with rules rule e g h = (
    g,
    subst (λ (r : CertRule). IsRuleError t r e) (one-first rules h.rule rule h.first g) h.error,
  )
