use Rattle.rpki_checked.specs.Checked.{IsCheckRefusal}
use Rattle.rpki_checked.proofs.cert.issue_router.Goals as goal

pub returns-in-Err-clause-err : goal.returns-in-Err-clause-err
returns-in-Err-clause-err g c =
    let refused = rw (
      c.subject_public_key_info-key.ensures,
      c.tbs.ensures,
      c.cert.ensures.value,
      c.provider.ensures,
      c.issuer-authority.ensures.value,
    ) at c.in-Err.ensures.err in
    IsCheckRefusal.OfSigning c.in-Err.e refused

pub returns-in-Ok-verify_router-clause-made : goal.returns-in-Ok-verify_router-clause-made
returns-in-Ok-verify_router-clause-made g c =
    rw (
      c.subject_public_key_info-key.ensures,
      c.tbs.ensures,
      c.cert.ensures.value,
      c.provider.ensures,
      c.issuer-authority.ensures.value,
    ) at c.in-Ok.ensures.ok

pub returns-in-Err-verify_router-clause-err : goal.returns-in-Err-verify_router-clause-err
returns-in-Err-verify_router-clause-err g c =
    let made = rw (
      c.subject_public_key_info-key.ensures,
      c.tbs.ensures,
      c.cert.ensures.value,
      c.provider.ensures,
      c.issuer-authority.ensures.value,
    ) at c.in-Ok.ensures.ok in
    IsCheckRefusal.OfChecking c.in-Ok.made c.in-Err-verify_router.e made c.in-Err-verify_router.ensures.err
