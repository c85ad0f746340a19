use Rattle.std.proofs.Common.{◌≡◌, true, false, arith}
use Rattle.rpki_resources.proofs.IpReadLaws.{too-long, not-zeros}
use Rattle.rpki_resources.proofs.ip_read.prefix_of.Goals as goal

pub returns-then-len-width-clause-none : goal.returns-then-len-width-clause-none
returns-then-len-width-clause-none c =
    too-long c.args.address.now c.args.size.now c.in-Ok.addr c.in-Ok-parse.len c.in-Ok.ensures.value
    c.in-Ok-parse.ensures.value.0.1 (omega (arith, c.width_of-width.ensures, c.if-len-width.true))

pub returns-then-not-ends_in_zeros-clause-none : goal.returns-then-not-ends_in_zeros-clause-none
returns-then-not-ends_in_zeros-clause-none c =
    not-zeros c.args.address.now c.args.size.now c.in-Ok.addr c.in-Ok-parse.len c.in-Ok.ensures.value
    c.in-Ok-parse.ensures.value.0.1
    (λ e. let no : false ≡ true = c.if-not-ends_in_zeros.ensures.1
    (rw (c.number_of.ensures.number, c.width_of-width.ensures) e) in absurd (cc))
