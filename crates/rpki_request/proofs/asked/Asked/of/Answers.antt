use Rattle.rpki_request.specs.Request.{asked_of, view_parts}
use Rattle.rpki_request.proofs.AskedLaws.{asked-stands}
use Rattle.rpki_request.proofs.asked.Asked.of.Goals as goal

pub returns-in-Ok-None : goal.returns-in-Ok-None
returns-in-Ok-None c = λ v h. (rw c.in-Ok-None.field-0-is at c.in-Ok-None.ensures) v.repository h.access

pub returns-in-Ok : goal.returns-in-Ok
returns-in-Ok c =
    let found = rw c.in-Ok-Some.field-0-is at c.in-Ok-Some.ensures in
    asked-stands c.args.all.now c.in-Some.key_usage (view_parts c.in-Ok-Some.view) (asked_of c.in-Ok.asked)
    c.in-Ok.ensures.usage c.in-Ok.ensures.repository (c.has_constraints.ensures.0 c.if-not-has_constraints.false)
    c.in-Some.ensures found (c.is_count.ensures.0 c.if-not-is_count.false)
