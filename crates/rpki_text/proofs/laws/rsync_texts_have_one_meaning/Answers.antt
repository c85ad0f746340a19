use Rattle.rpki_text.proofs.PartLaws.{one-meaning}
use Rattle.rpki_text.proofs.laws.rsync_texts_have_one_meaning.Goals as goal

pub returns : goal.returns
returns c = one-meaning
