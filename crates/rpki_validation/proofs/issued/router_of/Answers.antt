use Rattle.rpki_x509.proofs.TriedLaws.{tried-fault}
use Rattle.rpki_cert.specs.declared.profile.Profile.TheVariants.{Router}
use Rattle.rpki_valid.specs.Verified.{verified_by}
use Rattle.rpki_validation.proofs.StepLaws.{cert-found, cert-refused}
use Rattle.rpki_validation.proofs.issued.router_of.Goals as goal

pub returns-in_err-resources-clause-exactly : goal.returns-in_err-resources-clause-exactly
returns-in_err-resources-clause-exactly g c =
    let s = c.args.list.now in
    let v = verified_by g.P.Provider s.issuer in
    tried-fault _ _ _ _ c.from_residual.ensures
    (cert-refused v s.at c.in_err-resources.ensures.issued.period s.list c.args.cert Router _
    c.in_err-resources.ensures.exactly)

pub returns-clause-exactly : goal.returns-clause-exactly
returns-clause-exactly g c =
    let s = c.args.list.now in
    let v = verified_by g.P.Provider s.issuer in
    cert-found v s.at c.in_ok-resources.ensures.issued.period s.list c.args.cert Router _
    c.in_ok-resources.ensures.exactly
