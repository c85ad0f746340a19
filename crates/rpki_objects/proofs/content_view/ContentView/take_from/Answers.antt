use Rattle.std.proofs.Common.{ap, length, refl, rules}
use Rattle.rpki_objects.proofs.ObjectFaultLaws.{content-outside, content-untyped, content-none}
use Rattle.rpki_objects.proofs.ObjectViewLaws.{content-taken}
use Rattle.rpki_objects.proofs.content_view.ContentView.take_from.Goals as goal

pub returns-in-Err : goal.returns-in-Err
returns-in-Err c = content-outside _ _ _ c.in-Err.ensures

pub returns-in-Err-take_oid : goal.returns-in-Err-take_oid
returns-in-Err-take_oid c = content-untyped _ _ _ c.in-Ok.ensures _ _ c.in-Err-take_oid.ensures

pub returns-in-Ok-read_content : goal.returns-in-Ok-read_content
returns-in-Ok-read_content c =
    content-taken _ _ _ _ _ _ _ c.in-Ok.ensures c.in-Ok-take_oid.ensures c.in-Ok-read_content.ensures refl
    (search rules) refl (ap length c.rest-behind.ensures)

pub returns-in-Err-read_content : goal.returns-in-Err-read_content
returns-in-Err-read_content c =
    content-none _ _ _ c.in-Ok.ensures _ _ _ c.in-Ok-take_oid.ensures c.in-Err-read_content.ensures
