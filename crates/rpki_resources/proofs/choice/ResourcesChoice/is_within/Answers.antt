use Rattle.rpki_resources.proofs.choice.ResourcesChoice.is_within.Goals as goal

pub returns-in-Blocks : goal.returns-in-Blocks
returns-in-Blocks c = rw c.in-Blocks.is c.encompasses.ensures
