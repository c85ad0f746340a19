use Rattle.std.proofs.Common.{arith}
use Rattle.rpki_der.proofs.IntegerLaws.{octets-fit, magnitude-left}
use Rattle.rpki_der.proofs.integer.leading_zeros.Goals as goal

pub returns-else-octets-start-eq0-clause-magnitude : goal.returns-else-octets-start-eq0-clause-magnitude
returns-else-octets-start-eq0-clause-magnitude c =
    magnitude-left c.args.octets.now c.loop-start.start (octets-fit _ c.type_inv.octets) c.loop-start.invariant.0
    (λ _. omega (arith, c.if-octets-start-eq0.false))

pub returns-after-loop-start-clause-magnitude : goal.returns-after-loop-start-clause-magnitude
returns-after-loop-start-clause-magnitude c =
    magnitude-left c.args.octets.now c.loop-start.start (octets-fit _ c.type_inv.octets) c.loop-start.invariant.0
    (λ long. absurd (omega (arith, c.loop-start-test.false)))
