use Rattle.rpki_resources.proofs.ListReadLaws.{all-read}
use Rattle.rpki_resources.proofs.list_read.listed_blocks.Goals as goal

pub returns : goal.returns
returns c = all-read c.args.kind c.args.text.now c.parts.found.items (rw c.in_default.is at c.parts.invariant)
