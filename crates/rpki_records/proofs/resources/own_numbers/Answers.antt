use Rattle.std.proofs.Common.{◌∙◌, ap, sym}
use Rattle.rpki_resources.specs.Extension.{SpellsAsResources, IsAsResourcesFault}
use Rattle.rpki_records.specs.ChecklistResources.{is_inherited}
use Rattle.rpki_records.proofs.WholeLaws.{nothing}
use Rattle.rpki_records.proofs.resources.own_numbers.Goals as goal

pub returns-then-is_inherited-clause-err : goal.returns-then-is_inherited-clause-err
returns-then-is_inherited-clause-err c = λ v h.
    ap is_inherited (c.in-Ok.ensures.1 v h) ∙ sym c.is_inherited.ensures ∙ c.if-is_inherited.true

pub returns-in-Err-clause-err : goal.returns-in-Err-clause-err
returns-in-Err-clause-err c = λ v h.
    absurd (nothing SpellsAsResources IsAsResourcesFault _ c.in-Err.e c.in-Err.ensures v h)
