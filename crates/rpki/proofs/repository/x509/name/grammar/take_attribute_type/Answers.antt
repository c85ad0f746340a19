use Rattle.std.proofs.Common.{refl, true, false}
use Rattle.rpki_der.specs.Prelude.{sequence, oid, IsOidOf}
use Rattle.rpki_der.specs.Values.{GivesOuterFault}
use Rattle.rpki_der.proofs.ReadingLaws.{UnlessMemory-weaker}
use Rattle.rpki_der.proofs.LeavesLaws.{leaf-no-memory, contents-no-memory}
use Rattle.rpki_der.proofs.ComposedLaws.{outer-refused, inner-refused, inner-accepted, without-memory}
use Rattle.rpki_der.proofs.TriedLaws.{tried-refused}
use Rattle.rpki.specs.Name.{IsIdentifierThen, SpellsIdentifierThen}
use Rattle.rpki.proofs.NameLaws.{identified, unidentified}
use Rattle.rpki.proofs.repository.x509.name.grammar.take_attribute_type.Goals as goal

pub returns-in_err-contents : goal.returns-in_err-contents
returns-in_err-contents gen c =
    let e = c.in_err-contents.field-0.0 in
    let h = c.in_err-contents.ensures in
    tried-refused _ _ _ _ _ _ _ c.from_residual.ensures
    (without-memory SpellsIdentifierThen (GivesOuterFault sequence true) _ _ e
    (contents-no-memory sequence true _ e h.kind) (outer-refused sequence true IsIdentifierThen _ _ _ e refl h))

pub returns-in_err-identifier : goal.returns-in_err-identifier
returns-in_err-identifier gen c =
    let e = c.in_err-identifier.field-0.0 in
    let h = c.in_err-identifier.ensures in
    let m = gen.C.Cursor.octets_left c.in_ok-contents.contents in
    tried-refused _ _ _ _ _ _ _ c.from_residual-in_err-identifier.ensures
    (without-memory SpellsIdentifierThen (GivesOuterFault sequence true) _ _ e
    (leaf-no-memory oid false IsOidOf m e h.kind)
    (inner-refused sequence true IsIdentifierThen _ m _ _ e refl c.in_ok-contents.ensures
    (UnlessMemory-weaker e (unidentified m) h.refuses)))

pub returns : goal.returns
returns gen c = inner-accepted sequence true IsIdentifierThen _ (gen.C.Cursor.octets_left c.in_ok-contents.contents) _ _
    c.in_ok-contents.ensures (identified _ _ _ c.in_ok-identifier.ensures)
