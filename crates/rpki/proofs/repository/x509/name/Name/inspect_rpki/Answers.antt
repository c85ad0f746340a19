use Rattle.rpki.specs.StrictName.{IsPrintable}
use Rattle.rpki.proofs.RuleLaws.{named-not}
use Rattle.rpki.proofs.WithoutOrganizationLaws.{name-strict}
use Rattle.rpki.proofs.repository.x509.name.Name.inspect_rpki.Goals as goal

pub returns-in-Err-clause-err : goal.returns-in-Err-clause-err
returns-in-Err-clause-err c =
    (c.if-not-strict.false, named-not IsPrintable c.in-Err.rule c.args.self.now c.in-Err.ensures)

pub returns-in-Err-clause-without_organization : goal.returns-in-Err-clause-without_organization
returns-in-Err-clause-without_organization c = λ old. absurd
    (named-not IsPrintable c.in-Err.rule c.args.self.now c.in-Err.ensures
    (name-strict IsPrintable c.args.self.now old))
