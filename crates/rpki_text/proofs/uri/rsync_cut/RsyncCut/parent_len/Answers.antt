use Rattle.std.proofs.Common.{◌≡◌, ◌≤◌, ◌+◌, ℕ, List, length, sym, ap, ◌∙◌, subst, rules, arith}
use Rattle.std.proofs.lemmas.List.{length-drop}
use Rattle.rpki_text.specs.Segments.{IsParentLen}
use Rattle.rpki_text.specs.Cuts.{path_in}
use Rattle.rpki_text.specs.declared.uri.rsync_cut.RsyncCut.{RsyncCut}
use Rattle.rpki_text.proofs.JoinLaws.{parent-none}
use Rattle.rpki_text.proofs.ParentEndLaws.{parent_end-made}
use Rattle.rpki_text.proofs.OwnLaws.{own-path}
use Rattle.rpki_text.proofs.uri.rsync_cut.RsyncCut.parent_len.Goals as goal

pub returns-in_err-len-clause-none : goal.returns-in_err-len-clause-none
returns-in_err-len-clause-none c = rw c.from_residual.ensures
    (λ a. parent-none _ (sym (own-path c.args.self.now a) ∙ sym c.path.ensures ∙ c.in_err-len.ensures.none))

-- the parent ends within the text
within : (u : RsyncCut) (path : List ℕ) (n : ℕ) → path ≡ path_in u → n ≤ length path
    → u.places.path_start + n ≤ length u.text.now
within u path n e h =
    let size = ap length e ∙ length-drop u.places.path_start u.text.now in omega (arith, u.laid_out.path, size)

pub overflow_add-result : goal.overflow_add-result
overflow_add-result c =
    let h = within c.args.self.now _ _ c.path.ensures c.in_ok-len.ensures.some.within in search rules

pub returns-clause-within : goal.returns-clause-within
returns-clause-within c = within c.args.self.now _ _ c.path.ensures c.in_ok-len.ensures.some.within

pub returns-clause-segments : goal.returns-clause-segments
returns-clause-segments c a =
    parent_end-made _ _ _ a c.in_ok-len.len
    (subst (λ (s : List ℕ). IsParentLen s c.in_ok-len.len) (c.path.ensures ∙ own-path c.args.self.now a)
    c.in_ok-len.ensures.some)
