use Rattle.std.proofs.Common.{◌<◌, length, arith, ap}
use Rattle.rpki_der.specs.NestedFault.{AtHeader, AtContents}
use Rattle.rpki_der.proofs.TriedLaws.{tried-error}
use Rattle.rpki_der.proofs.walk.take_header_within.Goals as goal

pub returns-in_err-header-clause-refused : goal.returns-in_err-header-clause-refused
returns-in_err-header-clause-refused c =
    let some : 0 < length c.args.octets.now = c.requires.some in
    let h = c.in_err-header.ensures.err in
    tried-error _ _ _ c.from_residual.ensures
    (AtHeader {s = c.args.octets.now} (λ z. omega (arith, ap length z, some)) h.1)

pub returns-then-rest-header-clause-refused : goal.returns-then-rest-header-clause-refused
returns-then-rest-header-clause-refused c =
    let found = c.header-2.inside in
    let h = rw (← c.header-2.view_is) at c.in_ok-header.ensures.ok in
    AtContents found.header found.rest.now h.spells c.if-rest-header.true
