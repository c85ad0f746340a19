use Rattle.std.proofs.Common.{◌<◌, length, arith, ap, length-drop}
use Rattle.rpki_c.specs.Front.{AtHeader, AtContents}
use Rattle.rpki_der.specs.declared.error.DecodeError.TheVariants.{Truncated}
use Rattle.rpki_c.proofs.faults.header_within.Goals as goal

pub returns-in-Err-clause-none : goal.returns-in-Err-clause-none
returns-in-Err-clause-none c =
    let some : 0 < length c.args.octets.now = c.requires in
    (c.in-Err.field-0, AtHeader (λ z. omega (arith, ap length z, some)) c.in-Err.ensures.err.1)

pub returns-then-octets-size-clause-none : goal.returns-then-octets-size-clause-none
returns-then-octets-size-clause-none c =
    let h = c.in-Ok.ensures.ok in (
      Truncated,
      AtContents c.in-Ok.found.0 _ h.spells
          (omega (arith, c.if-octets-size.true, length-drop c.in-Ok.found.1 c.args.octets.now)),
    )
