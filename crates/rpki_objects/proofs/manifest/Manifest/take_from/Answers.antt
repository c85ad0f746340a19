use Rattle.std.proofs.Common.{refl}
use Rattle.std.proofs.lemmas.Bool.{iff_false}
use Rattle.rpki_der.proofs.TriedLaws.{tried-refused}
use Rattle.rpki_contents.specs.Manifest.{manifest}
use Rattle.rpki_objects.specs.TypedObject.{manifest_type}
use Rattle.rpki_objects.proofs.TypedObjectLaws.{no-object, other-type, not-content, is-typed}
use Rattle.rpki_objects.proofs.manifest.Manifest.take_from.Goals as goal

pub returns-in_err-object : goal.returns-in_err-object
returns-in_err-object g c =
    tried-refused _ _ _ _ _ _ _ c.from_residual.ensures
    (no-object manifest_type (λ x. x) manifest c.args.strict c.in_err-object.ensures)

pub returns-then-not-has_type : goal.returns-then-not-has_type
returns-then-not-has_type g c =
    other-type manifest_type (λ x. x) manifest c.args.strict _ c.in_ok-object.ensures
    (iff_false c.has_type.ensures c.if-not-has_type.true) (rw c.content.ensures refl)

pub returns-in_err-content : goal.returns-in_err-content
returns-in_err-content g c =
    let type = c.has_type.ensures.0 c.if-not-has_type.false in
    tried-refused _ _ _ _ _ _ _ c.from_residual-in_err-content.ensures
    (not-content manifest_type (λ x. x) manifest c.args.strict _ c.in_ok-object.ensures type
    (rw c.content-2.ensures at c.in_err-content.ensures))

pub returns : goal.returns
returns g c =
    let type = c.has_type.ensures.0 c.if-not-has_type.false in
    is-typed manifest_type (λ x. x) manifest c.args.strict _ c.in_ok-object.ensures type _ (λ x y e. e)
    (rw c.content-2.ensures at c.in_ok-content.ensures)
