use Rattle.rpki_resources.proofs.blocks.Blocks.encompasses.Goals as goal

pub returns : goal.returns
returns c = rw c.as_slice.ensures.blocks at (rw c.as_slice-2.ensures.blocks at c.is_part.ensures)
