use Rattle.rpki_text.proofs.EqualLaws.{same-parts, same-from-parts}
use Rattle.rpki_text.proofs.laws.equal_rsync_uris_have_equal_parts.Goals as goal

pub returns : goal.returns
returns c = λ u v. (same-parts u v, same-from-parts u v)
