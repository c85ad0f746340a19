use Rattle.rpki_der.proofs.TriedLaws.{tried-error}
use Rattle.rpki_cert.specs.declared.profile.Profile.TheVariants.{Ca}
use Rattle.rpki_valid.specs.Verified.{verified_by}
use Rattle.rpki_validation.proofs.StepLaws.{authority-refused, cert-found}
use Rattle.rpki_validation.proofs.issued.authority_of.Goals as goal

pub returns-in_err-authority-clause-err : goal.returns-in_err-authority-clause-err
returns-in_err-authority-clause-err g c =
    let s = c.args.list.now in
    let v = verified_by g.P.Provider s.issuer in
    tried-error _ _ _ c.from_residual.ensures
    (authority-refused v s.at c.in_err-authority.ensures.issued.period s.list c.args.cert _
    c.in_err-authority.ensures.err)

pub returns-clause-ok : goal.returns-clause-ok
returns-clause-ok g c =
    let s = c.args.list.now in
    let v = verified_by g.P.Provider s.issuer in
    cert-found v s.at c.in_ok-authority.ensures.issued.period s.list c.args.cert Ca _
    c.in_ok-authority.ensures.ok

pub returns-clause-period : goal.returns-clause-period
returns-clause-period g c =
    let s = c.args.list.now in
    let issued = c.in_ok-authority.ensures.issued in
    (c.in_ok-authority.ensures.period s.at).1
    ((issued.period, (issued.list.out, issued.list.fresh)), c.in_ok-authority.ensures.ok.path.issued.signed.period)

pub returns-clause-holds : goal.returns-clause-holds
returns-clause-holds g c = c.in_ok-authority.ensures.period
