use Rattle.rpki_resources.proofs.WritableLaws.{all-fit}
use Rattle.rpki_resources.proofs.laws.held_blocks_are_of_their_kind.Goals as goal

pub returns : goal.returns
returns c = λ x bs h. all-fit x.kind bs x.octets h.blocks.each
