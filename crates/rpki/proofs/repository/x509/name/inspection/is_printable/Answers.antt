use Rattle.std.proofs.Common.{false}
use Rattle.rpki_der.specs.TagName.{printable_string}
use Rattle.rpki_der.specs.Values.{SpellsLeaf}
use Rattle.rpki_der.specs.Text.{IsPrintableText}
use Rattle.rpki.proofs.InspectionLaws.{whole-read, whole-unread}
use Rattle.rpki.proofs.repository.x509.name.inspection.is_printable.Goals as goal

pub returns-in-Ok : goal.returns-in-Ok
returns-in-Ok gen c =
    whole-read (SpellsLeaf printable_string false IsPrintableText) (gen.C.Cursor.octets_left c.args.value) _ _ _
    c.in-Ok.ensures c.is_at_end.ensures

pub returns-in-Err : goal.returns-in-Err
returns-in-Err gen c =
    whole-unread printable_string false IsPrintableText (gen.C.Cursor.octets_left c.args.value) _ _ c.in-Err.ensures
