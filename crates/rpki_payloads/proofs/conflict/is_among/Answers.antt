use Rattle.rpki_payloads.proofs.ConflictLaws.{among-found}
use Rattle.rpki_payloads.proofs.conflict.is_among.Goals as goal

pub returns : goal.returns
returns c =
    rw c.is_ok.ensures.value
    (among-found c.args.others.now c.args.number c.binary_search.result c.requires c.binary_search.ensures.position)
