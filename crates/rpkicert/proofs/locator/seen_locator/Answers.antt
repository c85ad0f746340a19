use Rattle.std.proofs.lemmas.Result.{IfOk-weaker}
use Rattle.std.specs.Prelude.{Ok, Err}
use Rattle.rpkicert.proofs.locator.seen_locator.Goals as goal

pub returns-in-Ok : goal.returns-in-Ok
returns-in-Ok c =
    IfOk-weaker c.well.result _ _ (λ s h. (Ok c.in-Ok.sheet, c.in-Ok.ensures, h)) c.well.ensures

pub returns-in-Err : goal.returns-in-Err
returns-in-Err c =
    IfOk-weaker c.show.result _ _ (λ s h. (Err c.in-Err.fault, c.in-Err.ensures, h)) c.show.ensures
