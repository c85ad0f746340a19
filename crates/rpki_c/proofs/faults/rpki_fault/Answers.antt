use Rattle.std.proofs.Common.{inl, inr, refl}
use Rattle.rpki_c.proofs.FaultLaws.{nested}
use Rattle.rpki_c.proofs.faults.rpki_fault.Goals as goal

pub returns-in-Some : goal.returns-in-Some
returns-in-Some c =
    let x = rw c.in-Some.is at c.in-Ok.ensures.found in
    inl (refl, inr (x.0, nested x.1, x.1))
