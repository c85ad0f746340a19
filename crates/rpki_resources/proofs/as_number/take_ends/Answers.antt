use Rattle.rpki_der.proofs.FormatLaws.{tried, failed, given}
use Rattle.rpki_resources.specs.AsNumber.{as_number, IsAsRange, as_ends}
use Rattle.rpki_resources.proofs.ComposingLaws.{low-refused, high-refused, ends-read, ends-of-nothing}
use Rattle.rpki_resources.proofs.RangeLaws.{one-as-range}
use Rattle.rpki_resources.proofs.as_number.take_ends.Goals as goal

pub returns-in_err-lowest : goal.returns-in_err-lowest
returns-in_err-lowest c =
    tried (λ b. b) as_ends _ _ c.from_residual.ensures (low-refused IsAsRange as_number c.in_err-lowest.ensures)

pub returns-in_err-highest : goal.returns-in_err-highest
returns-in_err-highest c =
    tried (λ b. b) as_ends _ _ c.from_residual-in_err-highest.ensures
    (high-refused IsAsRange as_number c.in_ok-lowest.ensures c.in_err-highest.ensures)

pub returns-in-Some : goal.returns-in-Some
returns-in-Some c =
    given (ends-read IsAsRange as_number c.in_ok-lowest.ensures c.in_ok-highest.ensures c.in-Some.ensures.some
    (λ d k. one-as-range c.in-Some.block d _ c.in-Some.ensures.some k))

pub returns-in-None : goal.returns-in-None
returns-in-None c =
    rw c.content.ensures
    (failed (ends-of-nothing IsAsRange as_number c.in_ok-lowest.ensures c.in_ok-highest.ensures _
    c.in-None.ensures.none))
