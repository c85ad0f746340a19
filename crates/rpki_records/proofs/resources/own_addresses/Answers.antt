use Rattle.std.proofs.Common.{◌∙◌, ap, sym}
use Rattle.rpki_resources.specs.Extension.{SpellsIpResources, IsIpResourcesFault}
use Rattle.rpki_records.specs.ChecklistResources.{is_any_inherited}
use Rattle.rpki_records.proofs.WholeLaws.{nothing}
use Rattle.rpki_records.proofs.resources.own_addresses.Goals as goal

pub returns-then-is_any_inherited-clause-err : goal.returns-then-is_any_inherited-clause-err
returns-then-is_any_inherited-clause-err c = λ v h.
    ap is_any_inherited (c.in-Ok.ensures.1 v h) ∙ sym c.is_any_inherited.ensures ∙ c.if-is_any_inherited.true

pub returns-in-Err-clause-err : goal.returns-in-Err-clause-err
returns-in-Err-clause-err c = λ v h.
    absurd (nothing SpellsIpResources IsIpResourcesFault _ c.in-Err.e c.in-Err.ensures v h)
