use Rattle.std.proofs.Common.{refl}
use Rattle.rpkicert.specs.declared.fault.Clause.TheVariants as C
use Rattle.rpkicert.specs.Requirements.{IsCertIssued, IsCertUnissued}
use Rattle.rpkicert.proofs.RequirementsLaws.{by-both}
use Rattle.rpkicert.proofs.requirements.hold_cert.Goals as goal

pub returns : goal.returns
returns c =
    by-both C.Certificate IsCertIssued IsCertUnissued _ _ _ _ c.check_signer.result c.by.result refl c.signer.ensures
    c.check_signer.ensures c.by.ensures
