use Rattle.rpki_resources.proofs.UnreadLaws.{listed-there}
use Rattle.rpki_resources.proofs.compared.are_there.Goals as goal

pub returns-in-Listed : goal.returns-in-Listed
returns-in-Listed c = listed-there c.args.kind c.args.found c.in-Listed.octets c.in-Listed.is _ c.are_blocks.ensures
