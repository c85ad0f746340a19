use Rattle.std.proofs.Common.{refl}
use Rattle.std.proofs.lemmas.Bool.{iff_false}
use Rattle.rpki_der.proofs.TriedLaws.{tried-refused}
use Rattle.rpki_contents.specs.Roa.{fields_of, roa}
use Rattle.rpki_objects.specs.TypedObject.{origin_type}
use Rattle.rpki_objects.proofs.TypedObjectLaws.{no-object, other-type, not-content, is-typed, one-attestation}
use Rattle.rpki_objects.proofs.roa.Roa.take_from.Goals as goal

pub returns-in_err-object : goal.returns-in_err-object
returns-in_err-object g c =
    let s = c.args.strictness in
    tried-refused _ _ _ _ _ _ _ c.from_residual.ensures
    (no-object origin_type fields_of (roa s.families) s.attributes c.in_err-object.ensures)

pub returns-then-not-has_type : goal.returns-then-not-has_type
returns-then-not-has_type g c =
    let s = c.args.strictness in
    other-type origin_type fields_of (roa s.families) s.attributes _ c.in_ok-object.ensures
    (iff_false c.has_type.ensures c.if-not-has_type.true) (rw c.content.ensures refl)

pub returns-in_err-content : goal.returns-in_err-content
returns-in_err-content g c =
    let s = c.args.strictness in
    let type = c.has_type.ensures.0 c.if-not-has_type.false in
    tried-refused _ _ _ _ _ _ _ c.from_residual-in_err-content.ensures
    (not-content origin_type fields_of (roa s.families) s.attributes _ c.in_ok-object.ensures type
    (rw c.content-2.ensures at c.in_err-content.ensures))

pub returns : goal.returns
returns g c =
    let s = c.args.strictness in
    let type = c.has_type.ensures.0 c.if-not-has_type.false in
    is-typed origin_type fields_of (roa s.families) s.attributes _ c.in_ok-object.ensures type _ one-attestation
    (rw c.content-2.ensures at c.in_ok-content.ensures)
