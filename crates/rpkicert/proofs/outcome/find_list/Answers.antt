use Rattle.rpkicert.specs.OutcomeView.{finding_of}
use Rattle.rpkicert.specs.Requirements.{list_terms}
use Rattle.rpkicert.proofs.OutcomeLaws.{or-memory, was-read-of}
use Rattle.rpkicert.proofs.outcome.find_list.Goals as goal

pub returns : goal.returns
returns g c =
    or-memory (list_terms c.args.issuer.now c.args.moment) _ (finding_of c.found_in.result)
    (finding_of c.in_order.result)
    (was-read-of (list_terms c.args.issuer.now c.args.moment) _ c.in_ok-input.input.items
    (finding_of c.found_in.result) c.in_ok-input.ensures c.found_in.ensures) c.in_order.ensures
