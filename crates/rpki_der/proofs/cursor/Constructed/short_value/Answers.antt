use Rattle.std.proofs.Common.{arith, ◌≤◌, length}
use Rattle.rpki_der.specs.Cursor.{left}
use Rattle.rpki_der.specs.Wanted.{IsWanted}
use Rattle.rpki_der.proofs.WantedLaws.{is-flat}
use Rattle.rpki_der.proofs.cursor.Constructed.short_value.Goals as goal

pub returns-else-len-length : goal.returns-else-len-length
returns-else-len-length c =
    let size = c.len.ensures in
    let fits : c.in-Some.found.length ≤ length (left c.in-Some.following) = omega arith in
    rw (c.split_at.ensures.front, c.split_at.ensures.following)
    (is-flat (IsWanted c.args.wanted) (left c.args.self.now) c.in-Some.found (left c.in-Some.following)
    c.in-Some.ensures (c.is_wanted.ensures.0 c.if-not-is_wanted.false) fits)
