use Rattle.rpki_text.proofs.HttpsLaws.{equal-https-parents}
use Rattle.rpki_text.proofs.laws.equal_https_uris_have_equal_parents.Goals as goal

pub returns : goal.returns
returns c = equal-https-parents
