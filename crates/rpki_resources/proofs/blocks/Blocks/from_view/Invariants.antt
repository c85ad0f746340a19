use Rattle.std.proofs.Common.{◌≡◌, ◌++◌, List, length}
use Rattle.rpki_resources.specs.declared.block.Block.{Block}
use Rattle.rpki_resources.specs.InPlace.{Holds, IsLeft}
use Rattle.rpki_resources.proofs.blocks.Blocks.from_view.Given as goal

-- what was kept is the beginning of the blocks, and the others remain
abbrev pub invariant-each : goal.invariant-each
invariant-each l = (bs : List Block) → Holds l.view bs
    → (ds : List Block) × IsLeft l.rest ds × (bs ≡ l.items.items ++ ds)

abbrev pub decreases-each : goal.decreases-each
decreases-each l = length l.rest.octets
