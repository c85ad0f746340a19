use Rattle.std.proofs.Common.{sym}
use Rattle.rpki_fields.specs.Record.IsNoChecklist.{Malformed}
use Rattle.rpki_fields.proofs.RecordLaws.{checked-content}
use Rattle.rpki_fields.proofs.record.check_checklist_content.Goals as goal

pub returns-in-Ok : goal.returns-in-Ok
returns-in-Ok c = checked-content _ _ _ (sym c.in-Ok.ensures) c.check_found.ensures

pub returns-in-Err : goal.returns-in-Err
returns-in-Err c = Malformed c.in-Err.wrong.part (sym c.in-Err.ensures)
