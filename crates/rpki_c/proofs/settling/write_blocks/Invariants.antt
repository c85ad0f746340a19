use Rattle.std.proofs.Common.{length}
use Rattle.rpki_c.specs.Resources.{ip_entry}
use Rattle.rpki_c.proofs.ResourceLaws.{IsFilling}
use Rattle.rpki_c.proofs.settling.write_blocks.Given as goal

-- of the blocks the first ones are written, and the others remain
abbrev pub invariant-each : goal.invariant-each
invariant-each l = IsFilling (ip_entry l.family) l.from l.blocks l.fn.entries l.entries l.number l.rest

abbrev pub decreases-each : goal.decreases-each
decreases-each l = length l.rest
