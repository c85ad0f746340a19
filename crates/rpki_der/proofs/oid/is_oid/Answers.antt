use Rattle.std.proofs.Common.{arith}
use Rattle.rpki_der.proofs.OidLaws.{not-fine}
use Rattle.rpki_der.proofs.oid.is_oid.Goals as goal

pub returns-then-octet : goal.returns-then-octet
returns-then-octet c = (
  λ z. absurd (cc),
  λ h. absurd (not-fine c.args.contents.now c.loop-octet.octet-index
      (rw (← c.loop-octet.invariant.start) c.if-at_start.true) c.loop-octet-test.true (omega (arith, c.if-octet.true))
      h),
)
