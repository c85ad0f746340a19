use Rattle.std.proofs.lemmas.Bool.{false≢true, iff_false}
use Rattle.rpki_cert.proofs.KeyLaws.{parts-there, parts-in, no-parts}
use Rattle.rpki_cert.proofs.profile.key_rule.are_rsa_parts.Goals as goal

pub returns-then-is_modulus : goal.returns-then-is_modulus
returns-then-is_modulus c = (
  λ z. parts-there _ _ _ c.in-Ok.ensures (c.is_modulus.ensures.0 c.if-is_modulus.true) (c.is_exponent.ensures.0 z),
  λ h. c.is_exponent.ensures.1 (parts-in _ _ _ c.in-Ok.ensures h).1,
)

pub returns-else-is_modulus : goal.returns-else-is_modulus
returns-else-is_modulus c =
    let none = iff_false c.is_modulus.ensures c.if-is_modulus.false in
    (λ z. absurd (none (c.is_modulus.ensures.0 z)), λ h. absurd (none (parts-in _ _ _ c.in-Ok.ensures h).0))

pub returns-in-Err : goal.returns-in-Err
returns-in-Err c = (λ z. absurd (false≢true z), λ h. absurd (no-parts _ _ c.in-Err.field-0 c.in-Err.ensures h))
