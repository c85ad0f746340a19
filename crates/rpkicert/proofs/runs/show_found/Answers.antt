use Rattle.rpkicert.proofs.SettledLaws.{denied-by}
use Rattle.rpkicert.proofs.runs.show_found.Goals as goal

pub returns-in-Ok-clause-run : goal.returns-in-Ok-clause-run
returns-in-Ok-clause-run g c = λ k. rw (← c.in-Ok.ensures) (c.show_held.ensures.run k)

pub returns-in-Err-clause-run : goal.returns-in-Err-clause-run
returns-in-Err-clause-run g c = λ k.
    rw (← c.in-Err.ensures)
    (denied-by c.wrong_issuer.result _ _ _ _ c.wrong_issuer.ensures (c.deny.ensures.told k))
