-- Lemmas: equality of blocks and of sets is an equivalence, and their order is a total order.
use Rattle.std.specs.Prelude.{◌≡◌, Some, List}
use Rattle.std.specs.Cmp.{IsEquivalence, IsPartialOrder, IsTotalOrder, po, both_tied, unsigned_ties, then_total}
use Rattle.std.specs.Cmp.Lexicographic.{lists_ties}
use Rattle.std.specs.Ordering.{eq_by_cmp, nat_cmp}
use Rattle.std.proofs.lemmas.Cmp.{and_equiv, on_equiv, on_total, nat_eq_equiv, nat_cmp_total, lists_equiv, lists_total}
use Rattle.rpki_resources.specs.declared.block.Block.{Block}
use Rattle.rpki_resources.specs.Equal.{same_block, same_blocks, block_cmp, blocks_cmp}

pub same_block_equivalence : IsEquivalence same_block
same_block_equivalence = and_equiv (on_equiv (λ b. b.low) nat_eq_equiv) (on_equiv (λ b. b.high) nat_eq_equiv)

pub same_blocks_equivalence : IsEquivalence same_blocks
same_blocks_equivalence = lists_equiv same_block_equivalence

pub block_is_in_order : IsTotalOrder block_cmp
block_is_in_order = then_total (on_total (λ b. b.low) nat_cmp_total) (on_total (λ b. b.high) nat_cmp_total)

pub equal_block_is_level : (x y : Block) → same_block x y ≡ eq_by_cmp block_cmp x y
equal_block_is_level x y =
    both_tied _ _ (nat_cmp x.low y.low) (nat_cmp x.high y.high) (unsigned_ties x.low y.low)
    (unsigned_ties x.high y.high)

pub block_is_in_part_order : IsPartialOrder same_block (λ x y. Some (block_cmp x y))
block_is_in_part_order = po block_is_in_order equal_block_is_level

pub blocks_are_in_order : IsTotalOrder blocks_cmp
blocks_are_in_order = lists_total block_is_in_order

pub equal_blocks_are_level : (x y : List Block) → same_blocks x y ≡ eq_by_cmp blocks_cmp x y
equal_blocks_are_level = lists_ties block_cmp equal_block_is_level

pub blocks_are_in_part_order : IsPartialOrder same_blocks (λ x y. Some (blocks_cmp x y))
blocks_are_in_part_order = po blocks_are_in_order equal_blocks_are_level
