use Rattle.rpki_fields.specs.ObjectType.{kind_of}
use Rattle.rpki_fields.proofs.OneObjectLaws.{one-of}
use Rattle.rpki_fields.proofs.OneSheetLaws.{one-sheet}
use Rattle.rpki_fields.proofs.laws.one_sheet.Goals as goal

pub returns-clause-object : goal.returns-clause-object
returns-clause-object c = λ octets. one-of (kind_of octets) octets

pub returns-clause-sheet : goal.returns-clause-sheet
returns-clause-sheet c = one-sheet
