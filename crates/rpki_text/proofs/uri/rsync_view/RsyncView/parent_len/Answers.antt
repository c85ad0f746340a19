use Rattle.std.proofs.Common.{◌≡◌, ℕ, Option, Some, None, IfSome, take}
use Rattle.rpki_text.specs.RsyncText.{parent_of, IsParentEnd}
use Rattle.rpki_text.specs.Cuts.{cut_text, IsOwn}
use Rattle.rpki_text.specs.declared.uri.rsync_cut.RsyncCut.{RsyncCut}
use Rattle.rpki_text.proofs.ParentEndLaws.{parent_end-text}
use Rattle.rpki_text.proofs.uri.rsync_view.RsyncView.parent_len.Goals as goal

-- a parent that ends there is the text up to there
text : (u : RsyncCut) (r : Option ℕ) → IsOwn u → IfSome r (λ n. IsOwn u → IsParentEnd (cut_text u) n)
    → IfSome r (λ n. parent_of (cut_text u) ≡ Some (take n (cut_text u)))
text u None own h = h
text u (Some n) own h = parent_end-text _ _ _ _ own (h own)

pub returns-clause-some : goal.returns-clause-some
returns-clause-some c = text c.args.self.now.cut c.parent_len.result c.args.self.now.own c.parent_len.ensures.segments
