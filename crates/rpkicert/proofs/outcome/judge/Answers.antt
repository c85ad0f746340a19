use Rattle.std.proofs.Common.{◌∙◌, sym, inr}
use Rattle.rpkicert.specs.RequirementsView.{terms_of}
use Rattle.rpkicert.proofs.OutcomeLaws.{verified-held, unprofiled-wrong}
use Rattle.rpkicert.proofs.outcome.judge.Goals as goal

pub returns-then-is_outside : goal.returns-then-is_outside
returns-then-is_outside c = inr (sym c.is_outside.ensures ∙ c.if-is_outside.true)

pub returns-in-Ok : goal.returns-in-Ok
returns-in-Ok c =
    verified-held (terms_of c.args.terms.now) c.args.object.now c.verify.result c.in-Ok.ensures
    (sym c.is_outside.ensures ∙ c.if-is_outside.false) c.verify.ensures

pub returns-in-Err : goal.returns-in-Err
returns-in-Err c = inr (unprofiled-wrong (terms_of c.args.terms.now) c.args.object.now c.in-Err.fault c.in-Err.ensures)
