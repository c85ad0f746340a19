use Rattle.std.proofs.Common.{◌↔◌, length}
use Rattle.rpki_resources.specs.Blocks.{AreCanonical}
use Rattle.rpki_resources.proofs.canonical.are_canonical.Given as goal

-- the blocks are in canonical form where the rest are
abbrev pub invariant-each : goal.invariant-each
invariant-each l = AreCanonical l.blocks ↔ AreCanonical l.rest

abbrev pub decreases-each : goal.decreases-each
decreases-each l = length l.rest
