use Rattle.rpki_resources.proofs.blocks.Blocks.contains_block.Goals as goal

pub returns : goal.returns
returns c = rw c.as_slice.ensures.blocks at c.is_part.ensures
