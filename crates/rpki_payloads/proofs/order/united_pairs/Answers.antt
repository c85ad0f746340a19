use Rattle.rpki_payloads.proofs.order.united_pairs.Goals as goal

pub returns : goal.returns
returns c = rw c.in_ok-pairs.ensures at c.sort_pairs.ensures
