use Rattle.std.proofs.Common.{◌+◌, length}
use Rattle.rpki_resources.proofs.DifferenceLaws.{Lacking}
use Rattle.rpki_resources.proofs.difference.lacking.Given as goal

-- what the other lacks was found, or remains from a number on
abbrev pub invariant-pairs : goal.invariant-pairs
invariant-pairs l = Lacking l.one l.other l.found.items l.xs l.ys l.from

abbrev pub decreases-pairs : goal.decreases-pairs
decreases-pairs l = length l.xs + length l.ys
