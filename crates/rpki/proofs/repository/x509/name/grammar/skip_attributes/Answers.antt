use Rattle.std.proofs.Common.{inl, inr, refl, true}
use Rattle.rpki_der.specs.Prelude.{left, sequence, SpellsLeaf, AtMember}
use Rattle.rpki_der.proofs.ReadingLaws.{UnlessMemory-weaker}
use Rattle.rpki_der.proofs.FirstFaultLaws.{tried-parts}
use Rattle.rpki.specs.Name.{IsAttribute, SpellsAttribute, SpellsSome}
use Rattle.rpki.specs.AnyValue.{SpellsAny}
use Rattle.rpki.specs.NameFault.{attribute, attributes}
use Rattle.rpki.proofs.NameFaultLaws.{passed-fault}
use Rattle.rpki.proofs.NameLaws.{nothing-spelled, remains-all, remains-then, remains-refused, remains-nothing}
use Rattle.rpki_der.proofs.CursorLaws.{at-end, not-at-end}
use Rattle.rpki.proofs.repository.x509.name.grammar.skip_attributes.Goals as goal

pub returns-then-is_empty : goal.returns-then-is_empty
returns-then-is_empty c = rw c.content.ensures (
  nothing-spelled sequence true IsAttribute (left c.args.contents.now)
      (at-end _ _ c.if-is_empty.true c.is_empty.ensures),
  inl (at-end _ _ c.if-is_empty.true c.is_empty.ensures, refl),
)

pub attributes-init : goal.attributes-init
attributes-init c = remains-all sequence true IsAttribute (left c.args.contents.now)

pub attributes-preserved : goal.attributes-preserved
attributes-preserved c =
    remains-then sequence true IsAttribute _ (left c.attributes.contents) _
    (not-at-end _ _ c.attributes-test.true c.is_empty-in-attributes.ensures) c.attributes.invariant
    c.in_ok-skip_attribute.ensures

pub returns-in_err-skip_attribute : goal.returns-in_err-skip_attribute
returns-in_err-skip_attribute c =
    let s = left c.args.contents.now in
    let m = left c.attributes.contents in
    let e = c.in_err-skip_attribute.field-0.0 in
    let h = c.in_err-skip_attribute.ensures in
    let some = not-at-end _ _ c.attributes-test.true c.is_empty-in-attributes.ensures in
    tried-parts (λ u. tt) (SpellsAny (SpellsSome SpellsAttribute)) attributes.fault s _ e _ c.from_residual.ensures (
      UnlessMemory-weaker e (remains-refused sequence true IsAttribute s m some c.attributes.invariant) h.refuses,
      inr (passed-fault (SpellsLeaf sequence true (SpellsAny IsAttribute)) attribute.fault s m e
          c.attributes.invariant.passed (AtMember some h.refuses h.kind)),
    )

pub returns : goal.returns
returns c =
    let end = at-end _ _ c.attributes-test.false c.is_empty-in-attributes.ensures in (
      λ z. (
        remains-nothing sequence true IsAttribute _ _ (not-at-end _ _ c.if-is_empty.false c.is_empty.ensures) z
            c.attributes.invariant,
        λ w k. refl,
      ),
      λ some. absurd (some end),
    )
