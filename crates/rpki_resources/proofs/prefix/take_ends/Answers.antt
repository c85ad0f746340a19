use Rattle.rpki_der.proofs.FormatLaws.{tried, failed, given}
use Rattle.rpki_resources.specs.Address.{width, address, IsRange, range_ends}
use Rattle.rpki_resources.proofs.ComposingLaws.{low-refused, high-refused, ends-read, ends-of-nothing}
use Rattle.rpki_resources.proofs.RangeLaws.{one-range}
use Rattle.rpki_resources.proofs.prefix.take_ends.Goals as goal

pub returns-in_err-lowest : goal.returns-in_err-lowest
returns-in_err-lowest c =
    let w = width c.args.family in
    tried (λ b. b) (range_ends w) _ _ c.from_residual.ensures
    (low-refused (IsRange w) (address w) c.in_err-lowest.ensures)

pub returns-in_err-highest : goal.returns-in_err-highest
returns-in_err-highest c =
    let w = width c.args.family in
    tried (λ b. b) (range_ends w) _ _ c.from_residual-in_err-highest.ensures
    (high-refused (IsRange w) (address w) c.in_ok-lowest.ensures c.in_err-highest.ensures)

pub returns-in-Some : goal.returns-in-Some
returns-in-Some c =
    let w = width c.args.family in
    given (ends-read (IsRange w) (address w) c.in_ok-lowest.ensures c.in_ok-highest.ensures c.in-Some.ensures.some
    (λ d k. one-range w c.in-Some.block d _ c.in-Some.ensures.some k))

pub returns-in-None : goal.returns-in-None
returns-in-None c =
    let w = width c.args.family in
    rw c.content.ensures
    (failed (ends-of-nothing (IsRange w) (address w) c.in_ok-lowest.ensures c.in_ok-highest.ensures _
    c.in-None.ensures.none))
