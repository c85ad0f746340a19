use Rattle.rpki_payloads.proofs.order.united.Goals as goal

pub returns : goal.returns
returns c = rw c.in_ok-vrps.ensures at c.sort_vrps.ensures
