use Rattle.std.proofs.Common.{inl}
use Rattle.std.proofs.lemmas.Result.{IfOk-weaker}
use Rattle.rpkivalid.proofs.unverified.said_in.Goals as goal

pub returns-in-Ok : goal.returns-in-Ok
returns-in-Ok c = IfOk-weaker c.said_by.result _ _ (λ r h. inl (_, c.in-Ok.ensures.0, h)) c.said_by.ensures
