use Rattle.std.proofs.lemmas.Bool.{false≢true}
use Rattle.rpki_cert.proofs.InformationLaws.{held-there, held-wrong}
use Rattle.rpki_cert.proofs.profile.checks.has_held_access.Goals as goal

pub returns-in-Ok-Some : goal.returns-in-Ok-Some
returns-in-Ok-Some c = λ found h.
    let some = rw c.in-Ok-Some.is at c.in-Ok-Some.field-0-is in
    let told = rw some at (rw c.in-Ok-Some.is at h) in
    rw c.obeys.ensures (held-there c.args.rule found _ told)

pub returns-in-Err : goal.returns-in-Err
returns-in-Err c = λ found h. (
  λ z. absurd (false≢true z),
  λ k. absurd (held-wrong c.args.rule found (rw c.in-Err.is at h).0 k),
)
