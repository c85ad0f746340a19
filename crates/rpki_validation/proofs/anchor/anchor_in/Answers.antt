use Rattle.rpki_x509.proofs.TriedLaws.{tried-fault}
use Rattle.rpki_valid.specs.Verified.{terms_in}
use Rattle.rpki_validation.specs.Basis.{basis_by}
use Rattle.rpki_validation.proofs.AnchorLaws.{anchor-found, anchor-malformed, anchor-refused}
use Rattle.rpki_validation.proofs.anchor.anchor_in.Goals as goal

pub returns-in_err-cert-clause-exactly : goal.returns-in_err-cert-clause-exactly
returns-in_err-cert-clause-exactly g c =
    let p = g.P.Provider in
    let b = basis_by p (terms_in c.args.terms) c.args.provider.now c.args.at in
    tried-fault _ _ _ _ c.from_residual.ensures
    (anchor-malformed b c.args.octets _ c.in_err-cert.ensures.decodes.0 c.in_err-cert.ensures.part)

pub returns-in_err-anchor-clause-exactly : goal.returns-in_err-anchor-clause-exactly
returns-in_err-anchor-clause-exactly g c =
    let p = g.P.Provider in
    let b = basis_by p (terms_in c.args.terms) c.args.provider.now c.args.at in
    tried-fault _ _ _ _ c.from_residual-in_err-anchor.ensures
    (anchor-refused b c.args.octets c.in_ok-cert.cert c.in_ok-cert.ensures.decodes _ c.in_err-anchor.ensures.err)

pub returns-clause-exactly : goal.returns-clause-exactly
returns-clause-exactly g c =
    let p = g.P.Provider in
    let b = basis_by p (terms_in c.args.terms) c.args.provider.now c.args.at in
    rw c.in_ok-anchor.ensures.cert
    (anchor-found b c.args.octets c.in_ok-cert.cert c.in_ok-cert.ensures.decodes _ c.in_ok-anchor.ensures.ok)
