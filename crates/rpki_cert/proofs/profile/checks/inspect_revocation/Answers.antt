use Rattle.rpki_cert.proofs.profile.checks.inspect_revocation.Goals as goal

pub returns-in-Ok-Some : goal.returns-in-Ok-Some
returns-in-Ok-Some c = let h = rw c.in-Ok-Some.field-0-is at c.in-Ok-Some.ensures in (_, h)
