use Rattle.std.proofs.Common.{◌≡◌, ℕ, ◌+◌, List, Option, Some, None, IfSome, drop, sym, ap, ◌∙◌}
use Rattle.std.specs.Borrow.{Bor}
use Rattle.std.proofs.lemmas.List.{drop-drop}
use Rattle.rpki_text.specs.Segments.{segments}
use Rattle.rpki_text.specs.RsyncText.{names_refusal}
use Rattle.rpki_text.proofs.JoinLaws.{head-of, path-names}
use Rattle.rpki_text.proofs.OwnLaws.{own-module, own-path}
use Rattle.rpki_text.proofs.RelativeLaws.{relative-other-module}
use Rattle.rpki_text.proofs.BelowLaws.{relative-path_left}
use Rattle.rpki_text.proofs.uri.rsync_cut.RsyncCut.relative_to.Goals as goal

pub returns-then-not-has_module_of-clause-path : goal.returns-then-not-has_module_of-clause-path
returns-then-not-has_module_of-clause-path c a b =
    sym (relative-other-module _ _
    (sym (c.has_module_of.ensures ∙ own-module c.args.self.now c.args.base.now a b) ∙ c.if-not-has_module_of.true))

pub returns-clause-path : goal.returns-clause-path
returns-clause-path c a b =
    let u = c.args.self.now in
    let v = c.args.base.now in
    let same = relative-path_left u.text.now v.text.now
    (sym (c.has_module_of.ensures ∙ own-module u v a b) ∙ c.if-not-has_module_of.false) in
    let mine = c.path.ensures ∙ own-path u a in
    let theirs = c.path-2.ensures ∙ own-path v b in
    let names : names_refusal (segments c.path-2.result.now) ≡ None =
    rw theirs (path-names _ _ _ b (head-of _ _ _ b)) in
    rw (same, ← mine, ← theirs) (c.path_below.ensures.below names)

-- the end of a path is the end of the text
ends : (r : Option (Bor (List ℕ))) (path t : List ℕ) (k : ℕ) → path ≡ drop k t
    → IfSome r (λ p. (n : ℕ) × (p.now ≡ drop n path)) → IfSome r (λ p. (n : ℕ) × (p.now ≡ drop n t))
ends None path t k e h = h
ends (Some p) path t k e (n, h) = (k + n, h ∙ ap (drop n) e ∙ drop-drop n k t)

pub returns-clause-tail : goal.returns-clause-tail
returns-clause-tail c =
    ends c.path_below.result _ c.args.self.now.text.now _ c.path.ensures c.path_below.ensures.tail
