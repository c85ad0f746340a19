use Rattle.rpki_der.proofs.TriedLaws.{tried-error}
use Rattle.rpki_validation.proofs.PlaceLaws.{none-said, rejected-wrong, said-there}
use Rattle.rpki_validation.proofs.issued.is_authority.Goals as goal

pub returns-in_err-answer-clause-err : goal.returns-in_err-answer-clause-err
returns-in_err-answer-clause-err c =
    let wrong = rw c.tbs.ensures at c.in_err-answer.ensures in
    tried-error _ _ _ c.from_residual.ensures (λ strict. none-said strict c.args.cert.now.tbs wrong.0)

pub returns-in_err-answer-clause-reason : goal.returns-in_err-answer-clause-reason
returns-in_err-answer-clause-reason c =
    let wrong = rw c.tbs.ensures at c.in_err-answer.ensures in
    tried-error _ _ _ c.from_residual.ensures (rejected-wrong c.args.cert.now.tbs _ wrong)

pub returns-clause-ok : goal.returns-clause-ok
returns-clause-ok c =
    let said = rw c.tbs.ensures at c.in_ok-answer.ensures in
    λ strict. said-there strict c.args.cert.now.tbs c.in_ok-answer.answer said
