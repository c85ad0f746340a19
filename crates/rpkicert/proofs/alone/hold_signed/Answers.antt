use Rattle.rpkicert.specs.declared.fault.Clause.TheVariants as C
use Rattle.rpkicert.specs.Requirements.{IsSignedRight, IsSignedWrong}
use Rattle.rpkicert.proofs.RequirementsLaws.{by-one}
use Rattle.rpkicert.proofs.alone.hold_signed.Goals as goal

pub returns : goal.returns
returns c =
    by-one C.Object IsSignedRight IsSignedWrong _ _ c.check_signed.result c.by.result c.signed.ensures
    c.check_signed.ensures c.by.ensures
