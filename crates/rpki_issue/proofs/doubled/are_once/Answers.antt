use Rattle.std.proofs.Common.{refl}
use Rattle.rpki_issue.proofs.DoubledLaws.{none-twice}
use Rattle.rpki_issue.proofs.doubled.are_once.Goals as goal

pub returns-in-None : goal.returns-in-None
returns-in-None c = rw c.in-None.is (λ z. none-twice, λ h. refl)
