use Rattle.rpki_fields.specs.Object.IsNoObjectWith.{OtherContent}
use Rattle.rpki_fields.proofs.object.checklist.Goals as goal

pub returns-in-Err-check_checklist : goal.returns-in-Err-check_checklist
returns-in-Err-check_checklist c = OtherContent c.in-Ok.object c.in-Ok.ensures c.in-Err-check_checklist.ensures
