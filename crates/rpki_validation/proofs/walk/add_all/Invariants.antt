use Rattle.std.proofs.Common.{◌≡◌, ◌++◌, ◌⊎◌, List, length}
use Rattle.std.specs.List.{Contains}
use Rattle.std.specs.Vec.Iter.{into_iter_items, into_iter_len}
use Rattle.rpki_validation.specs.Waiting.{AddsAll, Entry}
use Rattle.rpki_valid.specs.Verified.{Authority}
use Rattle.rpki_validation.proofs.walk.add_all.Given as goal

-- those in front of the rest wait
abbrev pub invariant-below : goal.invariant-below
invariant-below g l = record {
  next : (goal.iterator-below g).can_next l.authority-iterator;
  ends : (goal.iterator-below g).is_finite l.authority-iterator;
  count : into_iter_len l.authority-iterator ≡ length (into_iter_items l.authority-iterator);
  done : List (Authority g.row.P.Denot);
  whole : l.fn.below.items ≡ done ++ into_iter_items l.authority-iterator;
  adds : AddsAll (g.S.Snapshot.holds l.snapshot) l.place done l.fn.waiting l.waiting;
  only : (e : Entry g.row.P.Denot) → Contains l.waiting e → Contains l.fn.waiting e ⊎ Contains done e.1;
}
