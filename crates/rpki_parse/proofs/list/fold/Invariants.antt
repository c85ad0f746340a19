use Rattle.std.proofs.Common.{◌≤◌, ◌+◌, length}
use Rattle.rpki_der.specs.Cursor.{left}
use Rattle.rpki_parse.specs.Fold.{fold_at}
use Rattle.rpki_parse.proofs.FoldLaws.{Makes}
use Rattle.rpki_parse.proofs.list.fold.Given as goal

-- the rest makes what all of it makes, and no value takes no octet
abbrev pub invariant-each : goal.invariant-each
invariant-each g l =
    let f = g.S.Step.next_at l.step in
    record {
      same : Makes f (fold_at f l.fn.first (left l.contents)) l.state l.count (left l.rest);
      few : l.count + length (left l.rest) ≤ length (left l.contents);
    }

abbrev pub decreases-each : goal.decreases-each
decreases-each g l = length (left l.rest)
