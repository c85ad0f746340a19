use Rattle.std.proofs.Common.{false}
use Rattle.rpki_der.specs.TagName.{printable_string}
use Rattle.rpki_der.specs.Values.{SpellsLeaf}
use Rattle.rpki_der.specs.Text.{IsPrintableText}
use Rattle.rpki.proofs.InspectionLaws.{whole-read, whole-unread}
use Rattle.rpki_cert.proofs.profile.name_values.is_printable.Goals as goal

pub returns-in-Ok : goal.returns-in-Ok
returns-in-Ok c =
    whole-read (SpellsLeaf printable_string false IsPrintableText) c.args.value.now _ _ _
    (rw c.from_slice-after.ensures at c.in-Ok.ensures) c.is_empty.ensures

pub returns-in-Err : goal.returns-in-Err
returns-in-Err c =
    whole-unread printable_string false IsPrintableText c.args.value.now _ _
    (rw c.from_slice-after.ensures at c.in-Err.ensures)
