use Rattle.rpki_text.proofs.EqualLaws.{equal-parents}
use Rattle.rpki_text.proofs.laws.equal_rsync_uris_have_equal_parents.Goals as goal

pub returns : goal.returns
returns c = equal-parents
