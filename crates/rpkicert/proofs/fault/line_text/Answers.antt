use Rattle.std.proofs.Common.{◌≡◌, string_bytes}
use Rattle.std.proofs.lemmas.Result.{IfOk-weaker}
use Rattle.rpki_locator.specs.declared.error.LocatorError.TheVariants.{OtherKey}
use Rattle.rpkicert.specs.Fault.{line_text}
use Rattle.rpkicert.proofs.fault.line_text.Goals as goal

pub returns-in-OtherKey : goal.returns-in-OtherKey
returns-in-OtherKey c =
    rw c.in-OtherKey.is
    (IfOk-weaker c.format-in-OtherKey.result _
    (λ text. string_bytes text ≡ line_text (OtherKey c.in-OtherKey.line c.in-OtherKey.e)) (λ text h. h)
    c.format-in-OtherKey.ensures.ok)
