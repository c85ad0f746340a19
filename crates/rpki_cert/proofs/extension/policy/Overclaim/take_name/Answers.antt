use Rattle.std.proofs.Common.{◌≡◌, ℕ, List, [], ◌∷◌, false, refl, sym, ◌∙◌}
use Rattle.rpki_der.specs.TagName.{oid}
use Rattle.rpki_der.proofs.LeavesLaws.{leaf-refused, leaf-accepted, leaf-malformed}
use Rattle.rpki_der.proofs.TriedLaws.{tried-refused}
use Rattle.rpki_cert.specs.declared.extension.policy.Overclaim.{Overclaim}
use Rattle.rpki_cert.specs.declared.extension.policy.Overclaim.TheVariants.{Refuse, Trim}
use Rattle.rpki_cert.specs.ExtensionContent.{IsPolicyName}
use Rattle.rpki_cert.proofs.extension.policy.Overclaim.take_name.Goals as goal

apart : ◌≡◌ {A = List ℕ} (43 ∷ 6 ∷ 1 ∷ 5 ∷ 5 ∷ 7 ∷ 14 ∷ 2 ∷ []) (43 ∷ 6 ∷ 1 ∷ 5 ∷ 5 ∷ 7 ∷ 14 ∷ 3 ∷ []) → ⊥
apart e = cc

-- octets name one policy
one-policy : (u w : Overclaim) (c : List ℕ) → IsPolicyName u c → IsPolicyName w c → w ≡ u
one-policy Refuse Refuse c h k = refl
one-policy Refuse Trim c h k = absurd (apart (sym h ∙ k))
one-policy Trim Refuse c h k = absurd (apart (sym k ∙ h))
one-policy Trim Trim c h k = refl

pub returns-in_err-contents : goal.returns-in_err-contents
returns-in_err-contents c =
    tried-refused _ _ _ _ _ _ _ c.from_residual.ensures
    (leaf-refused oid false IsPolicyName _ _ _ c.in_err-contents.field-0.0 refl c.in_err-contents.ensures)

pub returns-in-Some : goal.returns-in-Some
returns-in-Some c =
    let is = c.in-Some.ensures.some in
    leaf-accepted oid false IsPolicyName _ c.in_ok-contents.contents.now _ c.in-Some.overclaim c.in_ok-contents.ensures
    is (λ w h. one-policy c.in-Some.overclaim w _ is h)

pub returns-in-None : goal.returns-in-None
returns-in-None c =
    leaf-malformed oid false IsPolicyName _ c.in_ok-contents.contents.now _ _ _ _ c.content.ensures refl
    c.in_ok-contents.ensures c.in-None.ensures.none
