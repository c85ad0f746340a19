use Rattle.std.proofs.Common.{◌↔◌, length}
use Rattle.rpki_resources.specs.Blocks.{IsAmong}
use Rattle.rpki_resources.proofs.blocks.is_among.Given as goal

-- the number is in the blocks where it is in the rest
abbrev pub invariant-each : goal.invariant-each
invariant-each l = IsAmong l.number l.blocks ↔ IsAmong l.number l.rest

abbrev pub decreases-each : goal.decreases-each
decreases-each l = length l.rest
