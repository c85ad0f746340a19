use Rattle.std.proofs.Common.{◌≡◌, ◌++◌, length}
use Rattle.rpki_c.specs.Settling.{family_blocks}
use Rattle.rpki_c.proofs.held.family_blocks.Given as goal

-- the blocks of those that were seen, and then of the rest
abbrev pub invariant-each : goal.invariant-each
invariant-each l = family_blocks l.family l.entries ≡ l.blocks.items ++ family_blocks l.family l.rest

abbrev pub decreases-each : goal.decreases-each
decreases-each l = length l.rest
