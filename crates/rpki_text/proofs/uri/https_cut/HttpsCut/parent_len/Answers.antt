use Rattle.std.proofs.Common.{◌≡◌, ◌≤◌, ◌+◌, List, ℕ, Some, length, take, sym, ap, ◌∙◌, subst, rules, arith}
use Rattle.std.proofs.lemmas.List.{length-drop}
use Rattle.rpki_text.specs.HttpsText.{path_above}
use Rattle.rpki_text.specs.Cuts.{https_path_in}
use Rattle.rpki_text.specs.declared.uri.https_cut.HttpsCut.{HttpsCut}
use Rattle.rpki_text.proofs.HttpsPartLaws.{https-parent-none}
use Rattle.rpki_text.proofs.HttpsParentEndLaws.{https_end-made}
use Rattle.rpki_text.proofs.OwnLaws.{own-https-path}
use Rattle.rpki_text.proofs.uri.https_cut.HttpsCut.parent_len.Goals as goal

pub returns-in_err-len-clause-none : goal.returns-in_err-len-clause-none
returns-in_err-len-clause-none c = rw c.from_residual.ensures
    (λ a. https-parent-none _
    (ap path_above (sym (c.path.ensures ∙ own-https-path c.args.self.now a)) ∙ c.in_err-len.ensures.none))

-- the parent ends within the text
within : (u : HttpsCut) (path : List ℕ) (n : ℕ) → path ≡ https_path_in u → n ≤ length path
    → u.path_start + n ≤ length u.text.now
within u path n e h =
    let size = ap length e ∙ length-drop u.path_start u.text.now in omega (arith, u.laid_out.path, size)

pub overflow_add-result : goal.overflow_add-result
overflow_add-result c =
    let h = within c.args.self.now _ _ c.path.ensures c.in_ok-len.ensures.within in search rules

pub returns-clause-within : goal.returns-clause-within
returns-clause-within c = within c.args.self.now _ _ c.path.ensures c.in_ok-len.ensures.within

pub returns-clause-end : goal.returns-clause-end
returns-clause-end c a =
    https_end-made _ _ a c.in_ok-len.len
    (subst (λ (s : List ℕ). path_above s ≡ Some (take c.in_ok-len.len s))
    (c.path.ensures ∙ own-https-path c.args.self.now a) c.in_ok-len.ensures.some)
