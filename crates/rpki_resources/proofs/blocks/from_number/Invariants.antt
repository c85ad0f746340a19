use Rattle.std.proofs.Common.{◌↔◌, ◌≤◌, ℕ, length}
use Rattle.rpki_resources.specs.Blocks.{AreCanonical, IsAmong}
use Rattle.rpki_resources.proofs.blocks.from_number.Given as goal

-- the blocks that are passed end below the number
abbrev pub invariant-halves : goal.invariant-halves
invariant-halves l = record {
  few : l.few ≤ length l.rest;
  shorter : length l.rest ≤ length l.blocks;
  canonical : AreCanonical l.rest;
  same : (n : ℕ) → l.number ≤ n → IsAmong n l.blocks ↔ IsAmong n l.rest;
}

abbrev pub decreases-halves : goal.decreases-halves
decreases-halves l = l.few
