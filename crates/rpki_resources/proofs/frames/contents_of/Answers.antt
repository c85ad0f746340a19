use Rattle.std.proofs.Common.{true}
use Rattle.std.proofs.lemmas.Bool.{iff_false}
use Rattle.rpki_der.specs.Cursor.{left}
use Rattle.rpki_der.specs.Values.{SpellsContents}
use Rattle.rpki_der.proofs.ComposedLaws.{nothing-whole}
use Rattle.rpki_resources.proofs.UnreadLaws.{around, more-behind, not-around}
use Rattle.rpki_resources.proofs.frames.contents_of.Goals as goal

pub returns-then-is_empty-clause-some : goal.returns-then-is_empty-clause-some
returns-then-is_empty-clause-some c = around c.args.tag (left c.args.octets) (left c.in-Ok.contents) _ c.in-Ok.ensures
    (c.is_empty.ensures.0 c.if-is_empty.true)

pub returns-else-is_empty-clause-none : goal.returns-else-is_empty-clause-none
returns-else-is_empty-clause-none c = more-behind c.args.tag (left c.args.octets) (left c.in-Ok.contents) _
    c.in-Ok.ensures (iff_false c.is_empty.ensures c.if-is_empty.false)

pub returns-in-Err-clause-none : goal.returns-in-Err-clause-none
returns-in-Err-clause-none c =
    nothing-whole (SpellsContents c.args.tag true) (left c.args.octets)
    (not-around c.args.tag (left c.args.octets) _ c.in-Err.field-0 c.in-Err.ensures)
