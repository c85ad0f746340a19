use Rattle.std.proofs.Common.{◌+◌, length}
use Rattle.rpki_resources.proofs.UnionLaws.{Uniting}
use Rattle.rpki_resources.proofs.union.united.Given as goal

-- all numbers were found, are in the open block, or remain
abbrev pub invariant-pairs : goal.invariant-pairs
invariant-pairs l = Uniting l.one l.other l.found.items l.last l.xs l.ys

abbrev pub decreases-pairs : goal.decreases-pairs
decreases-pairs l = length l.xs + length l.ys
