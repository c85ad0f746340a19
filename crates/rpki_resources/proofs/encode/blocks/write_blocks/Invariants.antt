use Rattle.std.proofs.Common.{length}
use Rattle.rpki_der.specs.Written.{AppendsAllBut}
use Rattle.rpki_resources.specs.Encoded.{AreBlocksOf, blocks_octets}
use Rattle.rpki_resources.proofs.encode.blocks.write_blocks.Given as goal

-- all but the remaining blocks is written
abbrev pub invariant-each : goal.invariant-each
invariant-each g l = record {
  written : AppendsAllBut (g.W.Write.contents l.initial.out) (g.W.Write.contents l.out) (blocks_octets l.kind l.blocks)
      (blocks_octets l.kind l.rest);
  fit : AreBlocksOf l.kind l.rest;
}

abbrev pub decreases-each : goal.decreases-each
decreases-each g l = length l.rest
