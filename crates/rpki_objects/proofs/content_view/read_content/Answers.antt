use Rattle.std.proofs.lemmas.Bool.{iff_false}
use Rattle.rpki_objects.proofs.ObjectFaultLaws.{tag-none, inner-none, explicit-all, explicit-more}
use Rattle.rpki_objects.proofs.content_view.read_content.Goals as goal

pub returns-in-Err : goal.returns-in-Err
returns-in-Err c = tag-none _ _ _ (rw c.new.ensures at c.in-Err.ensures)

pub returns-then-is_empty : goal.returns-then-is_empty
returns-then-is_empty c =
    let a = rw c.new.ensures at c.in-Ok.ensures in
    explicit-all _ _ _ a _ c.in-Ok-read_octets.ensures (c.is_empty.ensures.0 c.if-is_empty.true)

pub returns-else-is_empty : goal.returns-else-is_empty
returns-else-is_empty c =
    let a = rw c.new.ensures at c.in-Ok.ensures in
    explicit-more _ _ _ a _ c.in-Ok-read_octets.ensures (iff_false c.is_empty.ensures c.if-is_empty.false)

pub returns-in-Err-read_octets : goal.returns-in-Err-read_octets
returns-in-Err-read_octets c =
    let a = rw c.new.ensures at c.in-Ok.ensures in inner-none _ _ _ a _ c.in-Err-read_octets.ensures
