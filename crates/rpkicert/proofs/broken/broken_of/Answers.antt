use Rattle.std.proofs.lemmas.Result.{IfOk-weaker}
use Rattle.rpkicert.proofs.broken.broken_of.Goals as goal

pub returns : goal.returns
returns c =
    IfOk-weaker c.broken.result _ _ (λ all h. (c.chosen-profile.result, c.chosen-profile.ensures, h))
    (rw c.rules.ensures at c.broken.ensures)
