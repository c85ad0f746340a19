use Rattle.std.proofs.Common.{List, length}
use Rattle.rpki_resources.specs.declared.block.Block.{Block}
use Rattle.rpki_resources.specs.InPlace.{Holds, IsLeft}
use Rattle.rpki_c.specs.Resources.{ip_entry}
use Rattle.rpki_c.proofs.ResourceLaws.{IsFilling}
use Rattle.rpki_c.proofs.ip_blocks.write_listed.Given as goal

-- of the blocks the first ones are written, and the others remain
abbrev pub invariant-each : goal.invariant-each
invariant-each l = (bs : List Block) → Holds l.listed bs
    → (ds : List Block) × IsLeft l.rest ds × IsFilling (ip_entry l.family) l.from bs l.fn.entries l.entries l.number ds

abbrev pub decreases-each : goal.decreases-each
decreases-each l = length l.rest.octets
