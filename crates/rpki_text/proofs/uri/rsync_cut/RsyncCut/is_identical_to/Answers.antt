use Rattle.std.proofs.Common.{sym}
use Rattle.rpki_text.proofs.MeaningLaws.{identical-test-none, identical-test-some}
use Rattle.rpki_text.proofs.uri.rsync_cut.RsyncCut.is_identical_to.Goals as goal

pub returns-in-None : goal.returns-in-None
returns-in-None c a b = sym (identical-test-none _ _ (sym (c.in-None.ensures.path a b)))

pub returns-in-Some : goal.returns-in-Some
returns-in-Some c a b =
    rw c.is_empty.ensures (sym (identical-test-some _ _ _ a _ _ (sym (c.in-Some.ensures.path a b))))
