use Rattle.std.proofs.Common.{refl}
use Rattle.rpki_time.specs.Validity.{HoldsAt}
use Rattle.rpkicert.specs.Requirements.{IsUpdateError}
use Rattle.rpkicert.specs.declared.fault.Clause.TheVariants as C
use Rattle.rpkicert.proofs.RequirementsLaws.{by-both}
use Rattle.rpkicert.proofs.requirements.hold_list_at.Goals as goal

pub returns : goal.returns
returns c =
    by-both C.Updates HoldsAt IsUpdateError _ _ _ _ c.check_updates.result c.by.result c.list_period.ensures refl
    c.check_updates.ensures c.by.ensures
