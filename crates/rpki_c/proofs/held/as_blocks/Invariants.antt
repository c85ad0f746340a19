use Rattle.std.proofs.Common.{◌≡◌, ◌<◌, ◌++◌, ◌^◌, length}
use Rattle.std.specs.Prelude.{All}
use Rattle.rpki_resources.specs.declared.block.Block.{Block}
use Rattle.rpki_c.specs.Settling.{as_blocks}
use Rattle.rpki_c.proofs.held.as_blocks.Given as goal

-- the blocks of those that were seen, and then of the rest
abbrev pub invariant-each : goal.invariant-each
invariant-each l =
    (as_blocks l.entries ≡ l.blocks.items ++ as_blocks l.rest) × All (λ (b : Block). b.high < 2 ^ 32) l.blocks.items

abbrev pub decreases-each : goal.decreases-each
decreases-each l = length l.rest
