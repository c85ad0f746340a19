use Rattle.std.proofs.Common.{length}
use Rattle.rpki_resources.proofs.set.+numbers_of.Given as goal

abbrev pub decreases-numbers_of : goal.decreases-numbers_of
decreases-numbers_of l = length l.blocks.now
