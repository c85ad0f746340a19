-- The blocks of a set, as it keeps them.
use Rattle.std.specs.Prelude.{List}
use Rattle.std.specs.Arc.{arc_value}
use Rattle.rpki_resources.specs.declared.block.Block.{Block}
use Rattle.rpki_resources.specs.declared.blocks.Items.{Items}
use Rattle.rpki_resources.specs.declared.blocks.Items.TheVariants.{Own, Shared}

abbrev pub items_of : Items → List Block
items_of (Own items) = items.items
items_of (Shared items) = (arc_value items).items
