use Rattle.std.proofs.Common.{length}
use Rattle.rpki.specs.Name.{SpellsRelative}
use Rattle.rpki.specs.StrictName.{attributes}
use Rattle.rpki.specs.NameTable.{name_table}
use Rattle.rpki.specs.InspectionView.{IsStringOf}
use Rattle.rpki.proofs.InspectionLaws.{Through}
use Rattle.rpki.proofs.repository.x509.name.inspection.Profile.add_relatives.Given as goal

abbrev pub invariant-relatives : goal.invariant-relatives
invariant-relatives gen l = Through SpellsRelative attributes name_table (IsStringOf l.fn.self) l.fn.found l.all
    (gen.C.Cursor.octets_left l.fn.contents) (gen.C.Cursor.octets_left l.rest)

abbrev pub decreases-relatives : goal.decreases-relatives
decreases-relatives gen l = length (gen.C.Cursor.octets_left l.rest)
