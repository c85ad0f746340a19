use Rattle.std.proofs.Common.{length}
use Rattle.rpki.specs.Name.{SpellsAttribute}
use Rattle.rpki.specs.NameTable.{name_table}
use Rattle.rpki.specs.InspectionView.{IsStringOf}
use Rattle.rpki.proofs.InspectionLaws.{Through}
use Rattle.rpki.proofs.repository.x509.name.inspection.Profile.add_attributes.Given as goal

abbrev pub invariant-attributes : goal.invariant-attributes
invariant-attributes gen l = Through SpellsAttribute (λ xs. xs) name_table (IsStringOf l.fn.self) l.fn.found l.all
    (gen.C.Cursor.octets_left l.fn.contents) (gen.C.Cursor.octets_left l.rest)

abbrev pub decreases-attributes : goal.decreases-attributes
decreases-attributes gen l = length (gen.C.Cursor.octets_left l.rest)
