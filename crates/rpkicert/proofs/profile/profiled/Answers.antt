use Rattle.rpkicert.proofs.ChosenLaws.{profiled-by}
use Rattle.rpkicert.proofs.profile.profiled.Goals as goal

pub returns : goal.returns
returns c =
    profiled-by c.args.asked c.args.object.now _ _ _ c.inspect_both.result c.asked_inspection-first.ensures
    c.own_inspection-own.ensures c.cert.ensures c.inspect_both.ensures
