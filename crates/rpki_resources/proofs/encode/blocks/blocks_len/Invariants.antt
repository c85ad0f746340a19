use Rattle.std.proofs.Common.{◌≡◌, ◌+◌, ◌<◌, ◌^◌, length}
use Rattle.rpki_resources.specs.Encoded.{AreBlocksOf, blocks_octets}
use Rattle.rpki_resources.proofs.encode.blocks.blocks_len.Given as goal

-- the octets of the blocks that were seen, and of the rest
abbrev pub invariant-each : goal.invariant-each
invariant-each l = record {
  sum : length (blocks_octets l.kind l.blocks) ≡ l.total + length (blocks_octets l.kind l.rest);
  below : l.total < 2 ^ 63;
  fit : AreBlocksOf l.kind l.rest;
}

abbrev pub decreases-each : goal.decreases-each
decreases-each l = length l.rest
