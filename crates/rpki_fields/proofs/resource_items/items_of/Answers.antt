use Rattle.rpki_fields.specs.ResourceItems.{IsBlockItem}
use Rattle.rpki_fields.proofs.EachIsLaws.{each-next}
use Rattle.rpki_fields.proofs.ResourceItemLaws.{of-kind-at}
use Rattle.rpki_fields.proofs.resource_items.items_of.Goals as goal

pub block_item-requires : goal.block_item-requires
block_item-requires c =
    of-kind-at c.args.kind c.args.blocks.now c.each.block-index _ c.requires c.each-test.true

pub each-preserved : goal.each-preserved
each-preserved c =
    rw c.in_ok-push.ensures.items
    (each-next (IsBlockItem c.args.kind) c.args.blocks.now c.each.block-index _ c.each.items.items c.in_ok-item.item
    c.each-test.true c.each.invariant c.in_ok-item.ensures)
