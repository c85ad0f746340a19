use Rattle.std.proofs.Common.{sym}
use Rattle.rpki_text.proofs.SegmentLaws.{is_dir-last-none, is_dir-last-some}
use Rattle.rpki_text.proofs.uri.path.is_closed.Goals as goal

pub returns-in-None : goal.returns-in-None
returns-in-None c = sym (is_dir-last-none _ c.in-None.ensures.value)

pub returns-in-Some : goal.returns-in-Some
returns-in-Some c = sym (is_dir-last-some _ _ c.in-Some.ensures.value)
