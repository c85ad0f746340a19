use Rattle.std.proofs.lemmas.Result.{IfOk-weaker}
use Rattle.rpkivalid.specs.Run.IsRunOf.{Denied}
use Rattle.rpkivalid.proofs.run.answered.Goals as goal

pub returns-in-Err : goal.returns-in-Err
returns-in-Err g c =
    IfOk-weaker c.denied.result _ _
    (λ r h. Denied c.in-Err.denial c.in-Err.ensures.denied (rw c.new.ensures.items at h)) c.denied.ensures
