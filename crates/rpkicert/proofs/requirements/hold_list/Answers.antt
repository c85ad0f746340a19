use Rattle.std.proofs.Common.{refl}
use Rattle.rpkicert.specs.declared.fault.Clause.TheVariants as C
use Rattle.rpkicert.specs.Requirements.{IsListIssued, IsListUnissued}
use Rattle.rpkicert.proofs.RequirementsLaws.{by-both}
use Rattle.rpkicert.proofs.requirements.hold_list.Goals as goal

pub returns : goal.returns
returns c =
    by-both C.List IsListIssued IsListUnissued _ _ _ _ c.check_list.result c.by.result refl c.list.ensures
    c.check_list.ensures c.by.ensures
