use Rattle.std.proofs.Common.{arith}
use Rattle.rpki_der.proofs.IntegerLaws.{octets-fit}
use Rattle.rpki_contents.proofs.InPlaceLaws.{some-weaker}
use Rattle.rpki_contents.proofs.ShortLaws.{three-octets, four-octets}
use Rattle.rpki_contents.proofs.short_form.number_in.Goals as goal

pub returns-in-len3 : goal.returns-in-len3
returns-in-len3 c =
    let is =
    rw (c.from-in-len3.ensures, c.from-in-len3-2.ensures, c.from-in-len3-3.ensures) at c.between-in-len3.ensures in
    some-weaker c.between-in-len3.result
    (λ n h. three-octets c.args.contents.now (octets-fit _ c.type_inv.contents) n
    (omega (arith, c.in-len3.len_at_least, c.in-len3.len_below)) h.0 h.1 h.2) is

pub returns-in-len4 : goal.returns-in-len4
returns-in-len4 c =
    let is =
    rw (c.from-in-len4.ensures, c.from-in-len4-2.ensures, c.from-in-len4-3.ensures, c.from-in-len4-4.ensures)
    at c.between-in-len4.ensures in
    some-weaker c.between-in-len4.result
    (λ n h. four-octets c.args.contents.now (octets-fit _ c.type_inv.contents) n
    (omega (arith, c.in-len4.len_at_least, c.in-len4.len_below)) h.0 h.1 h.2) is
