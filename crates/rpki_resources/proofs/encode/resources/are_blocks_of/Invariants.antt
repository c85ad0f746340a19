use Rattle.std.proofs.Common.{◌↔◌, length}
use Rattle.rpki_resources.specs.Encoded.{AreBlocksOf}
use Rattle.rpki_resources.proofs.encode.resources.are_blocks_of.Given as goal

-- all are where the rest are
abbrev pub invariant-each : goal.invariant-each
invariant-each l = AreBlocksOf l.kind l.blocks ↔ AreBlocksOf l.kind l.rest

abbrev pub decreases-each : goal.decreases-each
decreases-each l = length l.rest
