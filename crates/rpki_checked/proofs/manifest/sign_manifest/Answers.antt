use Rattle.rpki_checked.specs.Checked.{IsCheckRefusal}
use Rattle.rpki_checked.proofs.manifest.sign_manifest.Goals as goal

pub returns-in-Err-clause-err : goal.returns-in-Err-clause-err
returns-in-Err-clause-err g c = IsCheckRefusal.OfSigning c.in-Err.e c.in-Err.ensures.err

pub returns-in-Err-check_own-clause-err : goal.returns-in-Err-check_own-clause-err
returns-in-Err-check_own-clause-err g c =
    IsCheckRefusal.OfChecking c.in-Ok.made c.in-Err-check_own.e c.in-Ok.ensures.ok c.in-Err-check_own.ensures
