use Rattle.rpkicert.proofs.OutcomeLaws.{boxed-is}
use Rattle.rpkicert.proofs.outcome.kept.Goals as goal

pub returns-in-Ok : goal.returns-in-Ok
returns-in-Ok c = boxed-is c.boxed.result (λ b. b.value) c.args.octets.now c.in-Ok.object c.boxed.ensures
    c.in-Ok.ensures
