use Rattle.std.proofs.Common.{arith}
use Rattle.std.proofs.lemmas.List.{take_rest}
use Rattle.rpki_der.proofs.HeaderReadingLaws.{header-of-parts}
use Rattle.rpki_der.proofs.header.short_header.Goals as goal

pub returns-in-Ok : goal.returns-in-Ok
returns-in-Ok c =
    header-of-parts c.args.s.now _ c.in-Ok.rest.now _ _ c.in-Ok.length (λ i. omega (arith, c.type_inv.s i))
    c.in-Some.ensures.found
    (rw (take_rest c.args.s.now 1) at c.in-Ok.ensures)
