use Rattle.rpki_payloads.proofs.members.info_of.Goals as goal

pub returns-in_default : goal.returns-in_default
returns-in_default c = λ x h. (rw c.in_default.is at c.in_ok-octets.ensures) x h.0
