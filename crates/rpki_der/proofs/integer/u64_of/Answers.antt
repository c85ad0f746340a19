use Rattle.std.proofs.Common.{arith}
use Rattle.rpki_der.proofs.IntegerLaws.{nine-octets, one-number}
use Rattle.rpki_der.proofs.integer.u64_of.Goals as goal

pub returns-then-as_slice-gt8-clause-none : goal.returns-then-as_slice-gt8-clause-none
returns-then-as_slice-gt8-clause-none c = λ n h.
    let many = rw c.as_slice.ensures.octets at c.if-as_slice-gt8.true in
    omega (
      arith,
      h.below,
      one-number n _ c.args.contents.now h.contents c.in-Some.ensures.value,
      nine-octets _
          c.as_slice.ensures.magnitude many,
    )
