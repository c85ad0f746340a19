use Rattle.rpkicert.specs.RequirementsView.{terms_of}
use Rattle.rpkicert.proofs.RequirementsLaws.{periods-cert, periods-list, periods-last}
use Rattle.rpkicert.proofs.requirements.hold_periods.Goals as goal

pub returns-in_err-hold_cert_at : goal.returns-in_err-hold_cert_at
returns-in_err-hold_cert_at c =
    periods-cert (terms_of c.args.terms.now) c.args.object.now _ _ c.from_residual.ensures c.in_err-hold_cert_at.ensures

pub returns-in_err-hold_list_at : goal.returns-in_err-hold_list_at
returns-in_err-hold_list_at c =
    periods-list (terms_of c.args.terms.now) c.args.object.now _ _ c.from_residual-in_err-hold_list_at.ensures
    c.in_ok-hold_cert_at.ensures c.in_err-hold_list_at.ensures

pub returns : goal.returns
returns c =
    periods-last (terms_of c.args.terms.now) c.args.object.now _ c.in_ok-hold_cert_at.ensures
    c.in_ok-hold_list_at.ensures c.hold_manifest_at.ensures
