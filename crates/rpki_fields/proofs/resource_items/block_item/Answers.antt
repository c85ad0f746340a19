use Rattle.rpki_fields.proofs.resource_items.block_item.Goals as goal

pub unreachable-requires : goal.unreachable-requires
unreachable-requires c = c.in-None.ensures.none (rw c.in-Addresses.is at c.requires)
