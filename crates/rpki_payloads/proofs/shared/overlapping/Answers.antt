use Rattle.std.proofs.lemmas.Result.{IfOk-weaker}
use Rattle.rpki_payloads.proofs.SharedLaws.{finds-sharing, sharing-is}
use Rattle.rpki_payloads.proofs.shared.overlapping.Goals as goal

pub returns-in-Some : goal.returns-in-Some
returns-in-Some c =
    sharing-is 32 c.args.prefixes.now c.args.others.now c.in-Some.both (rw c.in-Some.is at c.in_ok-found.ensures)

pub returns-in-None : goal.returns-in-None
returns-in-None c =
    IfOk-weaker c.shared_with-in-None.result _ _
    (λ o h. finds-sharing c.args.prefixes.now c.args.others.now o (rw c.in-None.is at c.in_ok-found.ensures) h)
    c.shared_with-in-None.ensures
