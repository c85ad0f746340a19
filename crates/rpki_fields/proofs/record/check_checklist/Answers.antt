use Rattle.std.proofs.Common.{◌≡◌, rules}
use Rattle.rpki_records.specs.Identifiers.{checklist_type}
use Rattle.rpki_fields.proofs.RecordLaws.{checked-object}
use Rattle.rpki_fields.proofs.record.check_checklist.Goals as goal

pub returns : goal.returns
returns c =
    let type : c.args.object.now.content.content_type ≡ checklist_type = search rules in
    checked-object _ _ _ _ _ type (rw (c.as_slice.ensures, c.content-2.ensures) at c.check_checklist_content.ensures)
