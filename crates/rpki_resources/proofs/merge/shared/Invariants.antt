use Rattle.std.proofs.Common.{◌+◌, length}
use Rattle.rpki_resources.proofs.MergeLaws.{Merging}
use Rattle.rpki_resources.proofs.merge.shared.Given as goal

-- what is shared was found, or is shared by the rest of both
abbrev pub invariant-pairs : goal.invariant-pairs
invariant-pairs l = Merging l.one l.other l.found.items l.xs l.ys

abbrev pub decreases-pairs : goal.decreases-pairs
decreases-pairs l = length l.xs + length l.ys
