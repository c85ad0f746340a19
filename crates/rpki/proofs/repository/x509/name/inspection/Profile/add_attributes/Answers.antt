use Rattle.std.proofs.Common.{[], ◌∷◌, ◌++◌, true, subst, sym}
use Rattle.std.proofs.lemmas.Result.{err_from_is_err_and}
use Rattle.rpki_der.specs.TagName.{sequence}
use Rattle.rpki.specs.Name.{Attribute, IsAttribute, SpellsAttribute, IsIdentifierThen}
use Rattle.rpki.specs.NameRule.{FirstBreaks}
use Rattle.rpki.specs.Findings.{IsFound}
use Rattle.rpki.specs.NameTable.{name_table}
use Rattle.rpki.specs.InspectionView.{IsStringOf}
use Rattle.rpki_der.proofs.CursorLaws.{at-end, not-at-end}
use Rattle.rpki_der.proofs.LeafValueLaws.{leaf-shorter, leaf-nowhere}
use Rattle.rpki.proofs.InspectionLaws.{join-attributes, through-nothing, through-more, through-refused, through-all}
use Rattle.rpki.proofs.InspectionLaws.{no-attribute, this-attribute}
use Rattle.rpki.proofs.repository.x509.name.inspection.Profile.add_attributes.Goals as goal

pub attributes-init : goal.attributes-init
attributes-init gen c = through-nothing SpellsAttribute (λ xs. xs) name_table (IsStringOf c.args.self) c.args.found
    (gen.C.Cursor.octets_left c.args.contents) join-attributes

pub returns-in-Err : goal.returns-in-Err
returns-in-Err gen c =
    λ xs h.
    through-refused SpellsAttribute (λ ys. ys) name_table (IsStringOf c.args.self) _ c.args.found c.attributes.all _
    (gen.C.Cursor.octets_left c.attributes.rest) join-attributes
    (not-at-end _ _ c.attributes-test.true c.is_at_end.ensures) c.attributes.invariant
    (λ v q g. absurd (no-attribute (gen.C.Cursor.octets_left c.attributes.rest) _ _ c.in-Err.ensures v q g)) xs h.each

pub returns-in_err-all : goal.returns-in_err-all
returns-in_err-all gen c =
    let p = err_from_is_err_and c.from_residual.result c.from_residual.ensures.1 in
    let rule = c.in_err-all.field-0.0 in
    rw (p.1, p.2) (
    λ xs h.
    through-refused SpellsAttribute (λ ys. ys) name_table (IsStringOf c.args.self) rule c.args.found c.attributes.all _
    (gen.C.Cursor.octets_left c.attributes.rest) join-attributes
    (not-at-end _ _ c.attributes-test.true c.is_at_end.ensures) c.attributes.invariant
    (λ v q g before f.
    let k = this-attribute (gen.C.Cursor.octets_left c.attributes.rest) _ _ c.in-Ok.ensures v q g in
    subst (λ (a : Attribute). FirstBreaks name_table (IsStringOf c.args.self) rule (before ++ a ∷ [])) (sym k.1)
    ((rw c.octets.ensures at c.in_err-all.ensures) before f)) xs h.each
    )

pub attributes-smaller : goal.attributes-smaller
attributes-smaller gen c = leaf-shorter sequence true IsIdentifierThen (gen.C.Cursor.octets_left c.attributes.rest) _
    (gen.C.Cursor.octets_left c.take_attribute_type.new.cons) c.in-Ok.ensures.spells

pub attributes-preserved : goal.attributes-preserved
attributes-preserved gen c =
    through-more SpellsAttribute (λ ys. ys) name_table (IsStringOf c.args.self) c.args.found c.attributes.all
    c.in_ok-all.all _ (gen.C.Cursor.octets_left c.attributes.rest) _ join-attributes
    (not-at-end _ _ c.attributes-test.true c.is_at_end.ensures) c.attributes.invariant
    (λ v q g.
    let k = this-attribute (gen.C.Cursor.octets_left c.attributes.rest) _ _ c.in-Ok.ensures v q g in (
      k.0,
      λ before f. subst (λ (a : Attribute). IsFound name_table (IsStringOf c.args.self) c.in_ok-all.all
          (before ++ a ∷ [])) (sym k.1) ((rw c.octets.ensures at c.in_ok-all.ensures) before f),
    ))

pub returns : goal.returns
returns gen c =
    λ xs h.
    through-all SpellsAttribute (λ ys. ys) name_table (IsStringOf c.args.self) c.args.found c.attributes.all _
    (gen.C.Cursor.octets_left c.attributes.rest)
    (λ v q g. leaf-nowhere sequence true IsAttribute (gen.C.Cursor.octets_left c.attributes.rest) v q
    (at-end _ _ c.attributes-test.false c.is_at_end.ensures) g) c.attributes.invariant xs h.each
