use Rattle.std.proofs.Common.{◌≡◌, ◌-◌, ◌++◌, ◌∷◌, ℕ, List, length, take, arith, [], false, sym, ap, ◌∙◌, subst}
use Rattle.rpki_text.specs.Segments.{is_dir, IsParentLen}
use Rattle.rpki_text.proofs.SegmentLaws.{last-some, is_dir-last-some}
use Rattle.rpki_text.proofs.JoinLaws.{parent_len-slash, parent_len-open}
use Rattle.std.proofs.lemmas.Bool.Decides.{nat_tests}
use Rattle.rpki_text.proofs.uri.path.parent_len.Goals as goal

pub returns-then-last-eq47-clause-some : goal.returns-then-last-eq47-clause-some
returns-then-last-eq47-clause-some c =
    let e = last-some c.args.path.now _ c.in_ok-last.ensures.value in
    let front = c.split_at.ensures.front in
    let whole : c.args.path.now ≡ c.split_at.result.0.now ++ 47 ∷ [] = e ∙ ap
    (λ b. take (length c.args.path.now - 1) c.args.path.now ++ b ∷ []) c.if-last-eq47.true ∙ ap (λ f. f ++ 47 ∷ [])
    (sym front) in
    subst (λ (s : List ℕ). IsParentLen s c.after_last_slash.result) (sym whole)
    (parent_len-slash c.split_at.result.0.now c.after_last_slash.result c.after_last_slash.ensures.within
    c.after_last_slash.ensures.front c.after_last_slash.ensures.back)

pub returns-else-last-eq47-clause-some : goal.returns-else-last-eq47-clause-some
returns-else-last-eq47-clause-some c =
    let open_end : is_dir c.args.path.now ≡ false = is_dir-last-some c.args.path.now _ c.in_ok-last.ensures.value ∙
    grind (arith, nat_tests) in
    parent_len-open c.args.path.now _ c.after_last_slash-else-last-eq47.ensures.within open_end
    c.after_last_slash-else-last-eq47.ensures.front c.after_last_slash-else-last-eq47.ensures.back
