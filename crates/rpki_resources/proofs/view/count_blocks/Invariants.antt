use Rattle.std.proofs.Common.{◌≡◌, ◌≤◌, ◌+◌, List, length}
use Rattle.rpki_der.specs.Cursor.{left}
use Rattle.rpki_resources.specs.declared.block.Block.{Block}
use Rattle.rpki_resources.proofs.FollowLaws.{SoFar}
use Rattle.rpki_resources.proofs.view.count_blocks.Given as goal

-- blocks were read, as many as were counted, and the others remain
abbrev pub invariant-each : goal.invariant-each
invariant-each l = record {
  read : (xs : List Block) × SoFar l.kind l.octets l.last (left l.rest) xs × (length xs ≡ l.count);
  few : l.count + length (left l.rest) ≤ length l.octets;
}

abbrev pub decreases-each : goal.decreases-each
decreases-each l = length (left l.rest)
