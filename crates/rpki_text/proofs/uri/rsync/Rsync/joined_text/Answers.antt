use Rattle.std.proofs.Common.{rules, ◌≡◌, [], refl, ap, ◌∙◌, sym}
use Rattle.std.proofs.lemmas.Result.{err_from_is_err_and}
use Rattle.std.proofs.lemmas.Grind.{common_steps}
use Rattle.rpki_text.specs.RsyncText.{join_refusal}
use Rattle.rpki_text.proofs.JoinLaws.{join-refuses-nothing-empty, joined-empty}
use Rattle.rpki_text.proofs.uri.rsync.Rsync.joined_text.Goals as goal

pub returns-in_err-joined-clause-err : goal.returns-in_err-joined-clause-err
returns-in_err-joined-clause-err c =
    let p = err_from_is_err_and c.from_residual.result c.from_residual.ensures.1 in
    let refusal = ap (λ t. join_refusal t c.args.path.now) (sym c.cut-cut.ensures.text)
    ∙ c.in_err-joined.ensures.err c.cut-cut.ensures.own in
    rw (p.1, p.2, refusal) refl

pub returns-in_err-clone-clause-err : goal.returns-in_err-clone-clause-err
returns-in_err-clone-clause-err c =
    let e : c.args.path.now ≡ [] = search (rules, common_steps) in
    let p = err_from_is_err_and c.from_residual-in_err-clone.result c.from_residual-in_err-clone.ensures.1 in
    rw (p.1, p.2, join-refuses-nothing-empty c.args.self.now c.args.path.now e) refl

pub returns-then-is_empty-clause-text : goal.returns-then-is_empty-clause-text
returns-then-is_empty-clause-text c =
    let e : c.args.path.now ≡ [] = search (rules, common_steps) in
    rw (joined-empty c.args.self.now c.args.path.now e, ← c.self.view_is) c.in_ok-clone.ensures.cases

pub returns-then-is_empty-clause-ok : goal.returns-then-is_empty-clause-ok
returns-then-is_empty-clause-ok c =
    let e : c.args.path.now ≡ [] = search (rules, common_steps) in
    join-refuses-nothing-empty c.args.self.now c.args.path.now e
