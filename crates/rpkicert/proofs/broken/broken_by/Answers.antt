use Rattle.rpkicert.proofs.broken.broken_by.Goals as goal

pub returns-in-Some-cert : goal.returns-in-Some-cert
returns-in-Some-cert c = rw (c.in-Some.is, c.in-Some-cert.is) c.broken_of.ensures
