-- Which blocks and sets are equal, and their order.
use Rattle.std.specs.Prelude.{Bool, nat_eq, List}
use Rattle.std.specs.Cmp.Lexicographic.{pointwise, slice_cmp}
use Rattle.std.specs.declared.cmp.Ordering.{Ordering}
use Rattle.std.specs.Ordering.{on, eq_of_both, nat_cmp, then_cmp}
use Rattle.rpki_resources.specs.declared.block.Block.{Block}

-- blocks of the same lowest and the same highest number
abbrev pub same_block : Block → Block → Bool
same_block = eq_of_both (on (λ b. b.low) nat_eq) (on (λ b. b.high) nat_eq)

-- the same blocks
abbrev pub same_blocks : List Block → List Block → Bool
same_blocks = pointwise same_block

-- by the lowest number, and then by the highest
abbrev pub block_cmp : Block → Block → Ordering
block_cmp = then_cmp (on (λ b. b.low) nat_cmp) (on (λ b. b.high) nat_cmp)

-- by the first block that differs
abbrev pub blocks_cmp : List Block → List Block → Ordering
blocks_cmp = slice_cmp block_cmp
