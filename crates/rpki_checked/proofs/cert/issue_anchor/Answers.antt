use Rattle.rpki_checked.specs.Checked.{IsCheckRefusal}
use Rattle.rpki_checked.proofs.cert.issue_anchor.Goals as goal

pub returns-in-Err-clause-err : goal.returns-in-Err-clause-err
returns-in-Err-clause-err g c = IsCheckRefusal.OfSigning c.in-Err.e c.in-Err.ensures.err

pub returns-clause-err : goal.returns-clause-err
returns-clause-err g c =
    IsCheckRefusal.OfChecking c.in-Ok.made c.in-Err-verify_top.e c.in-Ok.ensures.ok c.in-Err-verify_top.ensures.err
