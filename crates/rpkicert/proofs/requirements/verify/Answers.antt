use Rattle.rpkicert.specs.RequirementsView.{terms_of}
use Rattle.rpkicert.proofs.RequirementsLaws.{first-periods, first-alone, the-last}
use Rattle.rpkicert.proofs.requirements.verify.Goals as goal

pub returns-in_err-hold_periods : goal.returns-in_err-hold_periods
returns-in_err-hold_periods c =
    first-periods (terms_of c.args.terms.now) c.args.object.now _ _ c.from_residual.ensures
    c.in_err-hold_periods.ensures

pub returns-in_err-hold_alone : goal.returns-in_err-hold_alone
returns-in_err-hold_alone c =
    first-alone (terms_of c.args.terms.now) c.args.object.now _ _ c.from_residual-in_err-hold_alone.ensures
    c.in_ok-hold_periods.ensures c.in_err-hold_alone.ensures

pub returns : goal.returns
returns c =
    the-last (terms_of c.args.terms.now) c.args.object.now _ c.in_ok-hold_periods.ensures c.in_ok-hold_alone.ensures
    c.hold_issuer.ensures
