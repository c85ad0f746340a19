use Rattle.std.proofs.Common.{refl}
use Rattle.rpkicert.specs.declared.fault.Clause.TheVariants as C
use Rattle.rpkicert.specs.Requirements.{IsNotOn, IsRevokedError}
use Rattle.rpkicert.proofs.RequirementsLaws.{by-both}
use Rattle.rpkicert.proofs.requirements.hold_unrevoked.Goals as goal

pub returns : goal.returns
returns c =
    by-both C.Revoked IsNotOn IsRevokedError _ _ _ _ c.check_revoked.result c.by.result refl c.signer.ensures
    c.check_revoked.ensures c.by.ensures
