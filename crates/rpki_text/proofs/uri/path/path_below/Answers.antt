use Rattle.std.proofs.Common.{rules, ◌≡◌, ◌<◌, ◌+◌, ◌++◌, ◌∷◌, [], List, ℕ, Some, None, length, drop, arith, refl, sym}
use Rattle.std.proofs.Common.{ap, ◌∙◌}
use Rattle.std.proofs.lemmas.Bool.Decides.{Decides-eqb}
use Rattle.std.proofs.lemmas.Grind.{common_steps}
use Rattle.std.proofs.lemmas.List.{drop-drop}
use Rattle.std.proofs.lemmas.Slice.Eq.{strip_prefix_is}
use Rattle.rpki_text.specs.HttpsText.{without_slash}
use Rattle.rpki_text.specs.RsyncText.{path_left}
use Rattle.rpki_text.proofs.SegmentLaws.{segments-empty}
use Rattle.rpki_text.proofs.BelowLaws.{path_left-root, below-none, below-same, below-slash, below-other}
use Rattle.rpki_text.proofs.uri.path.path_below.Goals as goal

pub returns-then-is_empty-clause-below : goal.returns-then-is_empty-clause-below
returns-then-is_empty-clause-below c h =
    let e : c.args.base.now ≡ [] = search (rules, common_steps) in
    sym (ap (path_left c.args.path.now) (rw e segments-empty) ∙ path_left-root c.args.path.now)

pub returns-in_err-rest-clause-below : goal.returns-in_err-rest-clause-below
returns-in_err-rest-clause-below c h =
    let some : 0 < length c.args.base.now = grind (arith, common_steps) in
    rw c.from_residual.ensures
    (sym (below-none c.args.path.now c.args.base.now some h
    (rw (← c.without_last_slash.ensures) (strip_prefix_is Decides-eqb _ _ None c.in_err-rest.ensures.cases))))

empty_list : (t : List ℕ) → length t ≡ 0 → t ≡ []
empty_list [] h = refl
empty_list (b ∷ t) h = absurd (omega arith)

pub returns-in_default-clause-below : goal.returns-in_default-clause-below
returns-in_default-clause-below c h =
    let some : 0 < length c.args.base.now = grind (arith, common_steps) in
    let following : c.args.path.now ≡ without_slash c.args.base.now ++ c.in_ok-rest.rest.now =
    rw (← c.without_last_slash.ensures) (strip_prefix_is Decides-eqb _ _ (Some c.in_ok-rest.rest)
    c.in_ok-rest.ensures.cases) in
    let none = empty_list _ c.in_default.ensures.cases in
    rw none (sym (below-same c.args.path.now c.args.base.now some h
    (following ∙ ap (λ r. without_slash c.args.base.now ++ r) none)))

pub returns-then-first-eq47-clause-below : goal.returns-then-first-eq47-clause-below
returns-then-first-eq47-clause-below c h =
    let some : 0 < length c.args.base.now = grind (arith, common_steps) in
    let following : c.args.path.now ≡ without_slash c.args.base.now ++ c.in_ok-rest.rest.now =
    rw (← c.without_last_slash.ensures) (strip_prefix_is Decides-eqb _ _ (Some c.in_ok-rest.rest)
    c.in_ok-rest.ensures.cases) in
    let rest = c.in-Some.ensures.cases.0 ∙ ap (λ b. b ∷ c.in-Some.below.now) c.if-first-eq47.true in
    sym (below-slash c.args.path.now c.args.base.now c.in-Some.below.now some h
    (following ∙ ap (λ r. without_slash c.args.base.now ++ r) rest))

pub returns-then-first-eq47-clause-tail : goal.returns-then-first-eq47-clause-tail
returns-then-first-eq47-clause-tail c =
    let n = length c.without_last_slash.result.now in
    let rest : c.in_ok-rest.rest.now ≡ drop n c.args.path.now = c.in_ok-rest.ensures.cases.1 in
    (n + 1, sym (ap (drop 1) c.in-Some.ensures.cases.0) ∙ ap (drop 1) rest ∙ drop-drop 1 n c.args.path.now)

pub returns-else-first-eq47-clause-below : goal.returns-else-first-eq47-clause-below
returns-else-first-eq47-clause-below c h =
    let some : 0 < length c.args.base.now = grind (arith, common_steps) in
    let following : c.args.path.now ≡ without_slash c.args.base.now ++ c.in_ok-rest.rest.now =
    rw (← c.without_last_slash.ensures) (strip_prefix_is Decides-eqb _ _ (Some c.in_ok-rest.rest)
    c.in_ok-rest.ensures.cases) in
    sym (below-other c.args.path.now c.args.base.now _ _ some h
    (following ∙ ap (λ r. without_slash c.args.base.now ++ r) c.in-Some.ensures.cases.0) c.if-first-eq47.false)
