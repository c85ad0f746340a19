use Rattle.rpkicert.proofs.profile.inspect.Goals as goal

pub returns-in-Some-cert : goal.returns-in-Some-cert
returns-in-Some-cert c = rw (c.in-Some.is, c.in-Some-cert.is) c.inspect_by.ensures
