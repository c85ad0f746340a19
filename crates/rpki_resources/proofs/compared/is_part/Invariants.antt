use Rattle.std.proofs.Common.{◌+◌, length}
use Rattle.rpki_der.specs.Cursor.{left}
use Rattle.rpki_resources.proofs.ComparedLaws.{Merging}
use Rattle.rpki_resources.proofs.compared.is_part.Given as goal

-- the question is that of the blocks that were read last and of the rest
abbrev pub invariant-pairs : goal.invariant-pairs
invariant-pairs l = Merging l.kind (left l.part) (left l.whole) l.inner l.outer (left l.inners) (left l.outers)

abbrev pub decreases-pairs : goal.decreases-pairs
decreases-pairs l = length (left l.inners) + length (left l.outers)
