use Rattle.std.proofs.Common.{List, ◌++◌, true, subst, sym}
use Rattle.std.proofs.lemmas.Result.{err_from_is_err_and}
use Rattle.rpki_der.specs.TagName.{set}
use Rattle.rpki.specs.Name.{Attribute, SpellsAttribute, SpellsSome, SpellsRelative}
use Rattle.rpki.specs.StrictName.{attributes}
use Rattle.rpki.specs.NameRule.{FirstBreaks}
use Rattle.rpki.specs.Findings.{IsFound}
use Rattle.rpki.specs.NameTable.{name_table}
use Rattle.rpki.specs.InspectionView.{IsStringOf}
use Rattle.rpki_der.proofs.CursorLaws.{at-end, not-at-end}
use Rattle.rpki_der.proofs.LeafValueLaws.{leaf-nowhere, contents-shorter}
use Rattle.rpki.proofs.InspectionLaws.{join-relatives, one-relative, through-nothing, through-more, through-refused}
use Rattle.rpki.proofs.InspectionLaws.{through-all, no-contents, these-contents}
use Rattle.rpki.proofs.repository.x509.name.inspection.Profile.add_relatives.Goals as goal

pub relatives-init : goal.relatives-init
relatives-init gen c = through-nothing SpellsRelative attributes name_table (IsStringOf c.args.self) c.args.found
    (gen.C.Cursor.octets_left c.args.contents) join-relatives

pub returns-in-Err : goal.returns-in-Err
returns-in-Err gen c =
    λ parts h.
    through-refused SpellsRelative attributes name_table (IsStringOf c.args.self) _ c.args.found c.relatives.all _
    (gen.C.Cursor.octets_left c.relatives.rest) join-relatives
    (not-at-end _ _ c.relatives-test.true c.is_at_end.ensures) c.relatives.invariant
    (λ v q g. absurd (no-contents set (SpellsSome SpellsAttribute) (gen.C.Cursor.octets_left c.relatives.rest) _ _
    c.in-Err.ensures v q g)) parts h.each

pub returns-in_err-all : goal.returns-in_err-all
returns-in_err-all gen c =
    let p = err_from_is_err_and c.from_residual.result c.from_residual.ensures.1 in
    let rule = c.in_err-all.field-0.0 in
    rw (p.1, p.2) (
    λ parts h.
    through-refused SpellsRelative attributes name_table (IsStringOf c.args.self) rule c.args.found c.relatives.all _
    (gen.C.Cursor.octets_left c.relatives.rest) join-relatives
    (not-at-end _ _ c.relatives-test.true c.is_at_end.ensures) c.relatives.invariant
    (λ v q g before f.
    let k = these-contents set (SpellsSome SpellsAttribute) (gen.C.Cursor.octets_left c.relatives.rest) _ _
    c.in-Ok.ensures v q g in
    subst (λ (xs : List Attribute). FirstBreaks name_table (IsStringOf c.args.self) rule (before ++ xs))
    (sym (one-relative v)) (c.in_err-all.ensures v k.1 before f)) parts h.each
    )

pub relatives-smaller : goal.relatives-smaller
relatives-smaller gen c = contents-shorter set true (gen.C.Cursor.octets_left c.relatives.rest) _
    (gen.C.Cursor.octets_left c.take_value_contents.new.self) c.in-Ok.ensures.spells

pub relatives-preserved : goal.relatives-preserved
relatives-preserved gen c =
    through-more SpellsRelative attributes name_table (IsStringOf c.args.self) c.args.found c.relatives.all
    c.in_ok-all.all _ (gen.C.Cursor.octets_left c.relatives.rest) _ join-relatives
    (not-at-end _ _ c.relatives-test.true c.is_at_end.ensures) c.relatives.invariant
    (λ v q g.
    let k = these-contents set (SpellsSome SpellsAttribute) (gen.C.Cursor.octets_left c.relatives.rest) _ _
    c.in-Ok.ensures v q g in (
      k.0,
      λ before f. subst (λ (xs : List Attribute). IsFound name_table (IsStringOf c.args.self) c.in_ok-all.all
          (before ++ xs)) (sym (one-relative v)) (c.in_ok-all.ensures v k.1 before f),
    ))

pub returns : goal.returns
returns gen c =
    λ parts h.
    through-all SpellsRelative attributes name_table (IsStringOf c.args.self) c.args.found c.relatives.all _
    (gen.C.Cursor.octets_left c.relatives.rest)
    (λ v q g. leaf-nowhere set true (SpellsSome SpellsAttribute) (gen.C.Cursor.octets_left c.relatives.rest) v q
    (at-end _ _ c.relatives-test.false c.is_at_end.ensures) g) c.relatives.invariant parts h.each
