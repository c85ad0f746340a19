use Rattle.rpki_checked.specs.Checked.{IsCheckRefusal}
use Rattle.rpki_checked.proofs.manifest.issue_manifest.Goals as goal

pub returns-in-Err-clause-err : goal.returns-in-Err-clause-err
returns-in-Err-clause-err g c =
    let refused = rw (c.provider.ensures, c.issuer.ensures.value) at c.in-Err.ensures.err in
    IsCheckRefusal.OfSigning c.in-Err.e refused

pub returns-in-Ok-check-clause-made : goal.returns-in-Ok-check-clause-made
returns-in-Ok-check-clause-made g c = rw (c.provider.ensures, c.issuer.ensures.value) at c.in-Ok.ensures.ok

pub returns-in-Err-check-clause-err : goal.returns-in-Err-check-clause-err
returns-in-Err-check-clause-err g c =
    let made = rw (c.provider.ensures, c.issuer.ensures.value) at c.in-Ok.ensures.ok in
    IsCheckRefusal.OfChecking c.in-Ok.made c.in-Err-check.e made c.in-Err-check.ensures
