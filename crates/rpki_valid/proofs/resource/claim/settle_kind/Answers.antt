use Rattle.rpki_valid.proofs.ResourceSetLaws.{refused-result}
use Rattle.rpki_valid.proofs.resource.claim.settle_kind.Goals as goal

pub returns-in-Refuse-clause-settled : goal.returns-in-Refuse-clause-settled
returns-in-Refuse-clause-settled c = rw c.in-Refuse.is c.settle.ensures.settled

pub returns-in-Refuse-clause-refused : goal.returns-in-Refuse-clause-refused
returns-in-Refuse-clause-refused c = rw c.in-Refuse.is
    (refused-result c.args.choice.now c.args.issuer.now c.settle.result c.settle.ensures.refused c.settle.ensures.other)
