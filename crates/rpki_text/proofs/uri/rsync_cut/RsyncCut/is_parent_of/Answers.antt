use Rattle.std.proofs.Common.{sym}
use Rattle.rpki_text.proofs.ParentLaws.{parent-test-none, parent-test-some}
use Rattle.rpki_text.proofs.uri.rsync_cut.RsyncCut.is_parent_of.Goals as goal

pub returns-in-None : goal.returns-in-None
returns-in-None c a b = sym (parent-test-none _ _ (sym (c.in-None.ensures.path b a)))

pub returns-in-Some : goal.returns-in-Some
returns-in-Some c a b =
    rw c.is_empty.ensures (sym (parent-test-some _ _ _ _ b _ (sym (c.in-Some.ensures.path b a))))
