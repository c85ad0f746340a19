use Rattle.rpki_checked.specs.Checked.{IsUnfound}
use Rattle.rpki_checked.proofs.cert.verify_router.Goals as goal

pub returns-in-Err-clause-err : goal.returns-in-Err-clause-err
returns-in-Err-clause-err g c = IsUnfound.OfReading c.in-Err.e c.in-Err.ensures

pub returns-in-Ok-verify_router-clause-valid : goal.returns-in-Ok-verify_router-clause-valid
returns-in-Ok-verify_router-clause-valid g c =
    let h = c.in-Ok-verify_router.ensures in
    record { cert = c.in-Ok.cert; one = c.in-Ok.ensures; verified = h.exactly; path = h.path; within = h.within }

pub returns-clause-err : goal.returns-clause-err
returns-clause-err g c =
    IsUnfound.OfRules c.in-Ok.cert c.in-Err-verify_router.e c.in-Ok.ensures c.in-Err-verify_router.ensures.exactly
