use Rattle.rpki_valid.proofs.ResourceSetLaws.{one-own}
use Rattle.rpki_valid.proofs.resource.claim.settle_anchor.Goals as goal

pub returns-in-Ok-settle_anchor-clause-only : goal.returns-in-Ok-settle_anchor-clause-only
returns-in-Ok-settle_anchor-clause-only c w h =
    one-own c.args.cert.now.extensions c.in-Ok.claim c.in-Ok-settle_anchor.resources w c.in-Ok.ensures.claimed
    c.in-Ok-settle_anchor.ensures.settled h
