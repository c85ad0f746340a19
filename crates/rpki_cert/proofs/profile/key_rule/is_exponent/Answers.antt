use Rattle.std.proofs.Common.{false}
use Rattle.std.proofs.lemmas.Bool.{false≢true}
use Rattle.rpki_der.specs.TagName.{integer}
use Rattle.rpki_der.specs.Leaves.{IsOnly}
use Rattle.rpki_der.proofs.LeavesLaws.{leaf-no-memory}
use Rattle.rpki_der.proofs.InsideLaws.{unless-memory}
use Rattle.rpki_cert.specs.Keys.{exponent, SpellsExponent}
use Rattle.rpki_x509.proofs.NameViewLaws.{whole-there, whole-end, whole-none}
use Rattle.rpki_cert.proofs.profile.key_rule.is_exponent.Goals as goal

pub returns-in-Ok : goal.returns-in-Ok
returns-in-Ok c = (
  λ z. whole-there SpellsExponent _ _ c.in-Ok.ensures (c.is_empty.ensures.0 z),
  λ h. c.is_empty.ensures.1 (whole-end SpellsExponent _ _ c.in-Ok.ensures h),
)

pub returns-in-Err : goal.returns-in-Err
returns-in-Err c =
    let h = c.in-Err.ensures in
    let none = unless-memory c.in-Err.field-0
    (λ z. leaf-no-memory integer false (IsOnly exponent) _ c.in-Err.field-0 h.kind z) h.refuses in
    (λ z. absurd (false≢true z), λ k. absurd (whole-none SpellsExponent _ none k))
