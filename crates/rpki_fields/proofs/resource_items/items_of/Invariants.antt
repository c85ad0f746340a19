use Rattle.std.proofs.Common.{take}
use Rattle.rpki_fields.specs.EachIs.{EachIs}
use Rattle.rpki_fields.specs.ResourceItems.{IsBlockItem}
use Rattle.rpki_fields.proofs.resource_items.items_of.Given as goal

abbrev pub invariant-each : goal.invariant-each
invariant-each l = EachIs (IsBlockItem l.kind) (take l.block-index l.blocks) l.items.items
