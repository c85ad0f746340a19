use Rattle.std.proofs.Common.{inl, inr, refl, true}
use Rattle.rpki_der.specs.Prelude.{left, set, SpellsLeaf, AtMember}
use Rattle.rpki_der.proofs.ReadingLaws.{UnlessMemory-weaker}
use Rattle.rpki_der.proofs.FirstFaultLaws.{tried-parts}
use Rattle.rpki.specs.Name.{SpellsSome, SpellsAttribute, SpellsRelative}
use Rattle.rpki.specs.AnyValue.{SpellsAny}
use Rattle.rpki.specs.NameFault.{relative, relatives}
use Rattle.rpki.proofs.NameFaultLaws.{passed-fault}
use Rattle.rpki.proofs.NameLaws.{nothing-spelled, remains-all, remains-then, remains-refused, remains-nothing}
use Rattle.rpki_der.proofs.CursorLaws.{at-end, not-at-end}
use Rattle.rpki_der.proofs.LeafValueLaws.{leaf-shorter}
use Rattle.rpki.proofs.repository.x509.name.grammar.skip_rdns.Goals as goal

pub returns-then-is_empty : goal.returns-then-is_empty
returns-then-is_empty c = rw c.content.ensures (
  nothing-spelled set true (SpellsSome SpellsAttribute) (left c.args.contents.now)
      (at-end _ _ c.if-is_empty.true c.is_empty.ensures),
  inl (at-end _ _ c.if-is_empty.true c.is_empty.ensures, refl),
)

pub relatives-init : goal.relatives-init
relatives-init c = remains-all set true (SpellsSome SpellsAttribute) (left c.args.contents.now)

pub relatives-smaller : goal.relatives-smaller
relatives-smaller c = leaf-shorter set true (SpellsAny (SpellsSome SpellsAttribute)) (left c.relatives.contents) tt
    (left c.skip_rdn.new.cons) c.in_ok-skip_rdn.ensures.spells

pub relatives-preserved : goal.relatives-preserved
relatives-preserved c =
    remains-then set true (SpellsSome SpellsAttribute) _ (left c.relatives.contents) _
    (not-at-end _ _ c.relatives-test.true c.is_empty-in-relatives.ensures) c.relatives.invariant
    c.in_ok-skip_rdn.ensures

pub returns-in_err-skip_rdn : goal.returns-in_err-skip_rdn
returns-in_err-skip_rdn c =
    let s = left c.args.contents.now in
    let m = left c.relatives.contents in
    let e = c.in_err-skip_rdn.field-0.0 in
    let h = c.in_err-skip_rdn.ensures in
    let some = not-at-end _ _ c.relatives-test.true c.is_empty-in-relatives.ensures in
    tried-parts (λ u. tt) (SpellsAny (SpellsSome SpellsRelative)) relatives.fault s _ e _ c.from_residual.ensures (
      UnlessMemory-weaker e (remains-refused set true (SpellsSome SpellsAttribute) s m some c.relatives.invariant)
          h.refuses,
      inr (passed-fault (SpellsLeaf set true (SpellsAny (SpellsSome SpellsAttribute))) relative.fault s m e
          c.relatives.invariant.passed (AtMember some h.refuses h.kind)),
    )

pub returns : goal.returns
returns c =
    let end = at-end _ _ c.relatives-test.false c.is_empty-in-relatives.ensures in (
      λ z. (
        remains-nothing set true (SpellsSome SpellsAttribute) _ _
            (not-at-end _ _ c.if-is_empty.false c.is_empty.ensures) z c.relatives.invariant,
        λ w k. refl,
      ),
      λ some. absurd (some end),
    )
