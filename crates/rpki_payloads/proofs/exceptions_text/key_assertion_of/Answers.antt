use Rattle.rpki_payloads.proofs.exceptions_text.key_assertion_of.Goals as goal

pub returns-in_default : goal.returns-in_default
returns-in_default c = λ k h. (rw c.in_default.is at c.asn_at.ensures) k.first h.asn

pub returns-in_default-2 : goal.returns-in_default-2
returns-in_default-2 c = λ k h. (rw c.in_default-2.is at c.in_ok-identifier.ensures) k.identifier h.identifier

pub returns-in_default-3 : goal.returns-in_default-3
returns-in_default-3 c = λ k h. (rw c.in_default-3.is at c.in_ok-info.ensures) k.info h.info
