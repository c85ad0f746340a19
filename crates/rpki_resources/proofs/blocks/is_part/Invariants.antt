use Rattle.std.proofs.Common.{◌↔◌, ◌+◌, length}
use Rattle.rpki_resources.specs.Blocks.{AreCanonical, IsSubset}
use Rattle.rpki_resources.proofs.blocks.is_part.Given as goal

-- the part is in the whole where the rest of the one is in the rest of the other
abbrev pub invariant-pairs : goal.invariant-pairs
invariant-pairs l = record {
  inners : AreCanonical l.inners;
  outers : AreCanonical l.outers;
  same : IsSubset l.part l.whole ↔ IsSubset l.inners l.outers;
}

abbrev pub decreases-pairs : goal.decreases-pairs
decreases-pairs l = length l.inners + length l.outers
