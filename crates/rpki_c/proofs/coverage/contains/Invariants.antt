use Rattle.std.proofs.Common.{◌↔◌, length}
use Rattle.rpki_resources.specs.Blocks.{IsAmong}
use Rattle.rpki_c.specs.Settling.{as_blocks}
use Rattle.rpki_c.proofs.coverage.contains.Given as goal

-- the number is in none of those that were seen
abbrev pub invariant-each : goal.invariant-each
invariant-each l = IsAmong l.number (as_blocks l.blocks) ↔ IsAmong l.number (as_blocks l.rest)

abbrev pub decreases-each : goal.decreases-each
decreases-each l = length l.rest
