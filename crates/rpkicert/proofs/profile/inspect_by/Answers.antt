use Rattle.rpkicert.proofs.ChosenLaws.{inspected}
use Rattle.rpkicert.proofs.profile.inspect_by.Goals as goal

pub returns : goal.returns
returns c =
    inspected c.args.inspection c.args.tbs.now c.chosen-profile.result c.inspect_as.result c.chosen-profile.ensures
    c.inspect_as.ensures
