use Rattle.rpki.specs.StrictName.{IsPrintable, IsPrintableOrUtf8}
use Rattle.rpki.proofs.WithoutOrganizationLaws.{name-strict}
use Rattle.rpki.proofs.laws.names_without_organization_are_strict.Goals as goal

pub returns-clause-rpki : goal.returns-clause-rpki
returns-clause-rpki c = name-strict IsPrintable

pub returns-clause-router : goal.returns-clause-router
returns-clause-router c = name-strict IsPrintableOrUtf8
