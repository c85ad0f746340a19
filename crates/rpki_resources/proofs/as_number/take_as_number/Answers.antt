use Rattle.std.proofs.Common.{arith, refl}
use Rattle.rpki_der.proofs.TriedLaws.{tried-refused}
use Rattle.rpki_resources.specs.AsNumber.{as_number}
use Rattle.rpki_resources.proofs.AsNumberLaws.{number-accepted, number-refused, number-too-large}
use Rattle.rpki_resources.proofs.as_number.take_as_number.Goals as goal

pub returns-in_err-number : goal.returns-in_err-number
returns-in_err-number c =
    let e = c.in_err-number.field-0.0 in
    tried-refused (λ n. n) as_number.spells as_number.fault _ _ e _ c.from_residual.ensures
    (number-refused _ _ _ e refl c.in_err-number.ensures)

pub returns-then-number-gt4294967295 : goal.returns-then-number-gt4294967295
returns-then-number-gt4294967295 c =
    rw c.content.ensures (number-too-large _ _ _ c.in_ok-number.number _ (omega (arith, c.if-number-gt4294967295.true))
    refl c.in_ok-number.ensures)

pub returns : goal.returns
returns c = number-accepted _ _ c.in_ok-number.number (omega (arith, c.if-number-gt4294967295.false))
    c.in_ok-number.ensures
