use Rattle.std.proofs.Common.{◌≡◌, ℕ, List, [], ◌∷◌, false, refl, sym, ◌∙◌}
use Rattle.rpki_der.specs.TagName.{bit_string}
use Rattle.rpki_der.proofs.LeavesLaws.{leaf-refused, leaf-accepted, leaf-malformed}
use Rattle.rpki_der.proofs.TriedLaws.{tried-refused}
use Rattle.rpki_cert.specs.declared.extension.key_usage.KeyUsage.{KeyUsage}
use Rattle.rpki_cert.specs.declared.extension.key_usage.KeyUsage.TheVariants.{Ca, Ee}
use Rattle.rpki_cert.specs.ExtensionContent.{IsUsage}
use Rattle.rpki_cert.proofs.extension.key_usage.KeyUsage.take_from.Goals as goal

-- octets name one use
one-usage : (u w : KeyUsage) (c : List ℕ) → IsUsage u c → IsUsage w c → w ≡ u
one-usage Ca Ca c h k = refl
one-usage Ca Ee c h k = absurd (let e : ◌≡◌ {A = List ℕ} (1 ∷ 6 ∷ []) (7 ∷ 128 ∷ []) = sym h ∙ k in cc)
one-usage Ee Ca c h k = absurd (let e : ◌≡◌ {A = List ℕ} (1 ∷ 6 ∷ []) (7 ∷ 128 ∷ []) = sym k ∙ h in cc)
one-usage Ee Ee c h k = refl

pub returns-in_err-contents : goal.returns-in_err-contents
returns-in_err-contents c =
    tried-refused _ _ _ _ _ _ _ c.from_residual.ensures
    (leaf-refused bit_string false IsUsage _ _ _ c.in_err-contents.field-0.0 refl c.in_err-contents.ensures)

pub returns-in-Some : goal.returns-in-Some
returns-in-Some c =
    let is = c.in-Some.ensures.some in
    leaf-accepted bit_string false IsUsage _ c.in_ok-contents.contents.now _ c.in-Some.usage c.in_ok-contents.ensures is
    (λ w h. one-usage c.in-Some.usage w _ is h)

pub returns-in-None : goal.returns-in-None
returns-in-None c =
    leaf-malformed bit_string false IsUsage _ c.in_ok-contents.contents.now _ _ _ _ c.content.ensures refl
    c.in_ok-contents.ensures c.in-None.ensures.none
