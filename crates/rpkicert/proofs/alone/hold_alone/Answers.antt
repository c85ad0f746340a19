use Rattle.rpkicert.proofs.RequirementsLaws.{alone-signed, alone-last}
use Rattle.rpkicert.proofs.alone.hold_alone.Goals as goal

pub returns-in_err-hold_signed : goal.returns-in_err-hold_signed
returns-in_err-hold_signed c =
    alone-signed c.args.object.now _ _ c.from_residual.ensures c.in_err-hold_signed.ensures

pub returns : goal.returns
returns c = alone-last c.args.object.now _ c.in_ok-hold_signed.ensures c.hold_resources.ensures
