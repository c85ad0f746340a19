use Rattle.rpki_payloads.proofs.ExceptionLaws.{each-next}
use Rattle.rpkivalid.specs.Ends.{IsTimed}
use Rattle.rpkivalid.proofs.gathered.timed_in.Goals as goal

pub each-preserved : goal.each-preserved
each-preserved c =
    rw c.in_ok-push.ensures.items
    (each-next IsTimed c.args.origins.now c.each.all.items c.each.origin-index c.origin-item.result _
    c.each-test.true c.origin-item.is c.each.invariant
    (record { vrp = c.from-vrp.ensures; expires = rw c.not_after.ensures at c.second_of-expires.ensures }))
