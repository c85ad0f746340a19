use Rattle.rpki_cert.specs.Profile.{authority_rules}
use Rattle.rpki_cert.proofs.RuleLaws.{goes-on, stops}
use Rattle.rpki_cert.proofs.profile.inspected.Inspected.obeys_authority.Goals as goal

pub returns-in_err-obeys : goal.returns-in_err-obeys
returns-in_err-obeys c = λ t h.
    stops c.args.strict t 1 authority_rules c.in_err-obeys.field-0.0 _
    c.from_residual.ensures (c.in_err-obeys.ensures t h)

pub returns : goal.returns
returns c = λ t h.
    goes-on c.args.strict t 1 authority_rules _ (c.in_ok-obeys.ensures t h)
    (c.obeys-2.ensures t h)
