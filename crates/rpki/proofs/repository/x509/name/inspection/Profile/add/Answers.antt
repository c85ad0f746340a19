use Rattle.std.proofs.Common.{arith, sym, ◌∙◌}
use Rattle.rpki.specs.Name.{attribute_of}
use Rattle.rpki.specs.NameTable.{name_table}
use Rattle.rpki.specs.InspectionView.{IsStringOf}
use Rattle.rpki.proofs.NameTableLaws.{names-distinct}
use Rattle.rpki.proofs.InspectionLaws.{found-more, second-attribute, other-string, other-attribute}
use Rattle.rpki.proofs.repository.x509.name.inspection.Profile.add.Goals as goal

pub returns-in_default : goal.returns-in_default
returns-in_default gen c = λ before f.
    other-attribute name_table (IsStringOf c.args.self) c.args.found before
    (attribute_of c.args.identifier.0.now (gen.C.Cursor.octets_left c.args.value)) f c.in_default.ensures.none

pub returns-then-found-number : goal.returns-then-found-number
returns-then-found-number gen c = λ before f.
    second-attribute name_table (IsStringOf c.args.self) _ c.args.found before
    (attribute_of c.args.identifier.0.now (gen.C.Cursor.octets_left c.args.value)) c.in-Some.number f
    c.in-Some.ensures.some c.if-found-number.true
    c.of_number.ensures

pub returns-then-not-permits : goal.returns-then-not-permits
returns-then-not-permits gen c = λ before f.
    other-string name_table (IsStringOf c.args.self) c.args.found before
    (attribute_of c.args.identifier.0.now (gen.C.Cursor.octets_left c.args.value)) c.in-Some.number f
    c.in-Some.ensures.some c.if-found-number.false
    (λ p. let both = sym c.if-not-permits.true ∙ c.permits.ensures.1 p in absurd (cc))

pub returns : goal.returns
returns gen c = λ before f.
    found-more name_table (IsStringOf c.args.self) c.args.found before
    (attribute_of c.args.identifier.0.now (gen.C.Cursor.octets_left c.args.value)) c.in-Some.number names-distinct f
    (omega (arith, c.in-Some.ensures.some.below)) c.in-Some.ensures.some c.if-found-number.false
    (c.permits.ensures.0 c.if-not-permits.false)
