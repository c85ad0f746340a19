use Rattle.rpki_der.proofs.ChoiceLaws.{such-read}
use Rattle.rpki_der.proofs.TriedLaws.{tried-refused}
use Rattle.rpki_resources.specs.Extension.{as_resources}
use Rattle.rpki_resources.specs.Kept.{AreAsResourcesOf, kept_as}
use Rattle.rpki_resources.proofs.KeptLaws.{as_of, as-only, not-read}
use Rattle.rpki_resources.proofs.NoMemoryLaws.{as-no-memory}
use Rattle.rpki_resources.proofs.resources.AsResources.take_from.Goals as goal

pub returns-in_err-view : goal.returns-in_err-view
returns-in_err-view c =
    tried-refused (λ v. v) kept_as.spells kept_as.fault _ _ _ _ c.from_residual.ensures
    (not-read AreAsResourcesOf as_resources (as-no-memory _) c.in_err-view.ensures)

pub returns : goal.returns
returns c =
    let v = c.in_ok-numbers.ensures.kept in
    such-read AreAsResourcesOf as_resources (as_of c.in_ok-numbers.numbers) c.in_ok-view.ensures v.0
    (as-only c.in_ok-view.view c.in_ok-numbers.numbers v)
