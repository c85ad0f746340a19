use Rattle.std.proofs.Common.{refl}
use Rattle.rpkicert.specs.Broken.AddsBroken.{Obeyed, Broken}
use Rattle.rpkicert.proofs.broken.add_broken.Goals as goal

pub returns-in-Ok : goal.returns-in-Ok
returns-in-Ok c = Obeyed c.in-Ok.ensures refl

pub returns-in_ok-push-in-Err : goal.returns-in_ok-push-in-Err
returns-in_ok-push-in-Err c =
    Broken _ (record { same = refl; broken = c.in-Err.ensures.0; error = c.in-Err.ensures.1 })
    c.in_ok-push-in-Err.ensures.items
