use Rattle.rpki_text.proofs.HttpsLaws.{same_https-parts, same_https-from-parts}
use Rattle.rpki_text.proofs.laws.equal_https_uris_have_equal_parts.Goals as goal

pub returns : goal.returns
returns c = λ u v. (same_https-parts u v, same_https-from-parts u v)
