use Rattle.std.proofs.Common.{arith, ◌≡◌}
use Rattle.rpki_resources.specs.IpRead.{address_width}
use Rattle.rpki_resources.proofs.AddressTextLaws.{other-width, range-some, range-none}
use Rattle.rpki_resources.proofs.ip_read.range_of.Goals as goal

pub returns-then-width_of-width-clause-none : goal.returns-then-width_of-width-clause-none
returns-then-width_of-width-clause-none c =
    other-width c.args.low.now c.args.high.now c.in-Ok.min c.in-Ok-parse.max c.in-Ok.ensures.value
    c.in-Ok-parse.ensures.value
    (λ e. absurd (omega (arith, e, c.if-width_of-width.true, c.width_of.ensures, c.width_of-width.ensures)))

pub returns-clause-some : goal.returns-clause-some
returns-clause-some c =
    let e : address_width c.in-Ok-parse.max ≡ address_width c.in-Ok.min =
    omega (arith, c.if-width_of-width.false, c.width_of.ensures, c.width_of-width.ensures) in
    range-some c.args.low.now c.args.high.now c.in-Ok.min c.in-Ok-parse.max c.in-Ok.ensures.value
    c.in-Ok-parse.ensures.value c.of.result e
    (rw (c.family_of.ensures, c.number_of.ensures.number, c.number_of-2.ensures.number) at c.of.ensures.some)
    (rw (c.family_of.ensures, c.number_of.ensures.number, c.number_of-2.ensures.number) at c.of.ensures.within)

pub returns-clause-none : goal.returns-clause-none
returns-clause-none c =
    let e : address_width c.in-Ok-parse.max ≡ address_width c.in-Ok.min =
    omega (arith, c.if-width_of-width.false, c.width_of.ensures, c.width_of-width.ensures) in
    range-none c.args.low.now c.args.high.now c.in-Ok.min c.in-Ok-parse.max c.in-Ok.ensures.value
    c.in-Ok-parse.ensures.value c.of.result e
    (rw c.number_of-2.ensures.number at c.number_of-2.ensures.below)
    (rw (c.family_of.ensures, c.number_of.ensures.number, c.number_of-2.ensures.number) at c.of.ensures.none)
