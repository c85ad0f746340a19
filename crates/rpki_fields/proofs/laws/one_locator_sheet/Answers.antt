use Rattle.rpki_fields.proofs.LocatorLaws.{one-locator-sheet}
use Rattle.rpki_fields.proofs.laws.one_locator_sheet.Goals as goal

pub returns : goal.returns
returns c = one-locator-sheet
