use Rattle.rpkicert.specs.RequirementsView.{terms_of}
use Rattle.rpkicert.proofs.RequirementsLaws.{issuer-anchor, issuer-cert, issuer-list, issuer-last}
use Rattle.rpkicert.proofs.requirements.hold_issuer.Goals as goal

pub returns-in_err-hold_anchor : goal.returns-in_err-hold_anchor
returns-in_err-hold_anchor c =
    issuer-anchor (terms_of c.args.terms.now) c.args.object.now _ _ c.from_residual.ensures c.in_err-hold_anchor.ensures

pub returns-in_err-hold_cert : goal.returns-in_err-hold_cert
returns-in_err-hold_cert c =
    issuer-cert (terms_of c.args.terms.now) c.args.object.now _ _ c.from_residual-in_err-hold_cert.ensures
    c.in_ok-hold_anchor.ensures c.in_err-hold_cert.ensures

pub returns-in_err-hold_list : goal.returns-in_err-hold_list
returns-in_err-hold_list c =
    issuer-list (terms_of c.args.terms.now) c.args.object.now _ _ c.from_residual-in_err-hold_list.ensures
    c.in_ok-hold_anchor.ensures c.in_ok-hold_cert.ensures c.in_err-hold_list.ensures

pub returns : goal.returns
returns c =
    issuer-last (terms_of c.args.terms.now) c.args.object.now _ c.in_ok-hold_anchor.ensures c.in_ok-hold_cert.ensures
    c.in_ok-hold_list.ensures c.hold_unrevoked.ensures
