use Rattle.rpki_payloads.proofs.members.identifier_of.Goals as goal

pub returns : goal.returns
returns c = λ x h. rw c.in-None.is at c.in_ok-octets.ensures x h.0
