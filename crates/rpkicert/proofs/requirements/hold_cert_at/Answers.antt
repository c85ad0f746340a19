use Rattle.std.proofs.Common.{refl}
use Rattle.rpki_time.specs.Validity.{HoldsAt}
use Rattle.rpki_valid.specs.Valid.{IsPeriodError}
use Rattle.rpkicert.specs.declared.fault.Clause.TheVariants as C
use Rattle.rpkicert.proofs.RequirementsLaws.{by-both}
use Rattle.rpkicert.proofs.requirements.hold_cert_at.Goals as goal

pub returns : goal.returns
returns c =
    by-both C.Period HoldsAt IsPeriodError _ _ _ _ c.check_period.result c.by.result c.signer_period.ensures refl
    c.check_period.ensures c.by.ensures
