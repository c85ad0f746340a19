use Rattle.std.proofs.Common.{List, length}
use Rattle.rpki_resources.specs.declared.block.Block.{Block}
use Rattle.rpki_resources.specs.declared.kind.ResourceKind.TheVariants.{AsNumbers}
use Rattle.rpki_resources.specs.Encoded.{AreBlocksOf}
use Rattle.rpki_resources.specs.InPlace.{Holds, IsLeft}
use Rattle.rpki_c.specs.Resources.{as_entry}
use Rattle.rpki_c.proofs.ResourceLaws.{IsFilling}
use Rattle.rpki_c.proofs.as_blocks.write_listed.Given as goal

-- of the blocks the first ones are written, and the others remain, which are blocks of AS numbers
abbrev pub invariant-each : goal.invariant-each
invariant-each l = (bs : List Block) → Holds l.listed bs
    → (ds : List Block) × IsLeft l.rest ds × AreBlocksOf AsNumbers ds
    × IsFilling as_entry 0 bs l.fn.entries l.entries l.number ds

abbrev pub decreases-each : goal.decreases-each
decreases-each l = length l.rest.octets
