use Rattle.std.proofs.Common.{◌∙◌, ◌++◌, ℕ, List, ap, ◌∷◌, [], append_assoc}
use Rattle.rpkivalid.proofs.paths.pair.Goals as goal

pub returns : goal.returns
returns c =
    c.in_ok-push_str-2.ensures.bytes
    ∙ ap (λ (t : List ℕ). t ++ c.args.rest.now)
    (c.in_ok-push_str.ensures.bytes ∙ ap (λ (t : List ℕ). t ++ 47 ∷ []) c.in_ok-path.ensures.ok)
    ∙ append_assoc c.args.name.now (47 ∷ []) c.args.rest.now
