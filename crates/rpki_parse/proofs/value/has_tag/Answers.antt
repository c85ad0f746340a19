use Rattle.rpki_parse.proofs.ValueLaws.{tag_law}
use Rattle.rpki_parse.proofs.value.has_tag.Goals as goal

pub returns : goal.returns
returns c = tag_law _ _ _ c.bytes_left.ensures c.has_tag.ensures
