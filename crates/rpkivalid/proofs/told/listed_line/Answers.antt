use Rattle.std.proofs.Common.{◌∙◌, ℕ, List, [], ◌∷◌, ◌++◌, ap, codes}
use Rattle.std.proofs.lemmas.Result.{IfOk-weaker}
use Rattle.rpkivalid.proofs.told.listed_line.Goals as goal

pub returns : goal.returns
returns c =
    IfOk-weaker c.format.result _ _ (λ r h. h ∙ ap (λ (t : List ℕ). c.args.name.now
    ++ (codes ": listed by " ++ (t ++ 10 ∷ []))) c.place_text-place.ensures) c.format.ensures.ok
