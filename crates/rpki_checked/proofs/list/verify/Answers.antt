use Rattle.rpki_checked.specs.Checked.{IsUnfound}
use Rattle.rpki_checked.proofs.list.verify.Goals as goal

pub returns-in-Err-clause-err : goal.returns-in-Err-clause-err
returns-in-Err-clause-err g c = IsUnfound.OfReading c.in-Err.e c.in-Err.ensures

pub returns-in-Err-crl-clause-err : goal.returns-in-Err-crl-clause-err
returns-in-Err-crl-clause-err g c =
    IsUnfound.OfRules c.in-Ok.list c.in-Err-crl.e c.in-Ok.ensures c.in-Err-crl.ensures.err
