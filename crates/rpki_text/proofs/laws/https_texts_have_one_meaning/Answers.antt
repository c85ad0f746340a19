use Rattle.rpki_text.proofs.HttpsLaws.{one-https-meaning}
use Rattle.rpki_text.proofs.laws.https_texts_have_one_meaning.Goals as goal

pub returns : goal.returns
returns c = one-https-meaning
