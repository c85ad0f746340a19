use Rattle.std.proofs.Common.{◌≢◌, []}
use Rattle.std.proofs.lemmas.Bool.{iff_false}
use Rattle.rpki_der.specs.Cursor.{left}
use Rattle.rpki_resources.proofs.FollowLaws.{next-shorter}
use Rattle.rpki_resources.proofs.ViewLaws.{gives-none, gives-next, left-after, never-refused}
use Rattle.rpki_resources.proofs.view.BlockCursor.next_block.Goals as goal

pub returns-then-is_empty-clause-given : goal.returns-then-is_empty-clause-given
returns-then-is_empty-clause-given c = rw (← c.self.view_is)
    (gives-none c.self.inside.kind c.self.inside.last (left c.self.inside.rest)
    (c.is_empty.ensures.0 c.if-is_empty.true))

pub invariant_of-self : goal.invariant_of-self
invariant_of-self c =
    let some : left c.self.inside.rest ≢ [] = iff_false c.is_empty.ensures c.if-is_empty.false in
    left-after c.self.inside.kind c.self.inside.last (left c.self.inside.rest) c.in-Ok.block _ some c.in-Ok.ensures
    c.self.invariant

pub returns-in-Ok-clause-given : goal.returns-in-Ok-clause-given
returns-in-Ok-clause-given c =
    let some : left c.self.inside.rest ≢ [] = iff_false c.is_empty.ensures c.if-is_empty.false in
    rw (← c.self.view_is) (gives-next c.self.inside.kind c.self.inside.last (left c.self.inside.rest) c.in-Ok.block _
    some c.in-Ok.ensures)

pub returns-in-Err-clause-given : goal.returns-in-Err-clause-given
returns-in-Err-clause-given c = λ bs h.
    let some : left c.self.inside.rest ≢ [] = iff_false c.is_empty.ensures c.if-is_empty.false in
    let k = c.self.invariant in
    absurd (never-refused c.self.inside.kind c.self.inside.last (left c.self.inside.rest) _ c.in-Err.field-0 some
    c.in-Err.ensures k.0 k.1)

pub returns-in-Ok-clause-shorter : goal.returns-in-Ok-clause-shorter
returns-in-Ok-clause-shorter c =
    let less = next-shorter c.self.inside.kind c.self.inside.last (left c.self.inside.rest) c.in-Ok.block _
    c.in-Ok.ensures in
    rw (← c.self.view_is) less
