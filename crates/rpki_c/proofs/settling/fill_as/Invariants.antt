use Rattle.std.proofs.Common.{length}
use Rattle.rpki_resources.specs.declared.kind.ResourceKind.TheVariants.{AsNumbers}
use Rattle.rpki_resources.specs.Encoded.{AreBlocksOf}
use Rattle.rpki_c.specs.Resources.{as_entry}
use Rattle.rpki_c.proofs.ResourceLaws.{IsFilling}
use Rattle.rpki_c.proofs.settling.fill_as.Given as goal

-- of the blocks the first ones are written, and the others remain
abbrev pub invariant-each : goal.invariant-each
invariant-each l = IsFilling as_entry 0 l.blocks l.fn.entries l.entries l.number l.rest × AreBlocksOf AsNumbers l.rest

abbrev pub decreases-each : goal.decreases-each
decreases-each l = length l.rest
