use Rattle.rpki_issue.proofs.RefusedLaws.{not-refused}
use Rattle.rpki_issue.proofs.laws.what_can_be_issued_is_not_refused.Goals as goal

pub returns : goal.returns
returns c = λ x e w can short h. not-refused x e w can short h
