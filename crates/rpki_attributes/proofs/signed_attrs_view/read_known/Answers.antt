use Rattle.std.proofs.Common.{refl}
use Rattle.std.proofs.lemmas.Bool.{iff_false}
use Rattle.rpki_attributes.proofs.AttributesViewLaws.{attribute-refused}
use Rattle.rpki_attributes.proofs.TogetherLaws.{none-first, none-next, too-many, all-said}
use Rattle.rpki_attributes.proofs.TogetherLaws.Begins.{NoneYet, OneMore}
use Rattle.rpki_attributes.proofs.signed_attrs_view.read_known.Goals as goal

pub returns-in-Err : goal.returns-in-Err
returns-in-Err c = none-first c.args.strict _ (attribute-refused _ _ c.in-Err.field-0 c.in-Err.ensures)

pub returns-then-is_empty : goal.returns-then-is_empty
returns-then-is_empty c =
    all-said c.args.strict _ _ _ (OneMore c.in-Ok.ensures NoneYet) (c.is_empty.ensures.0 c.if-is_empty.true) c.of.result
    c.of.ensures

pub returns-in-Err-take_from : goal.returns-in-Err-take_from
returns-in-Err-take_from c =
    none-next c.args.strict _ _ _ (OneMore c.in-Ok.ensures NoneYet) (iff_false c.is_empty.ensures c.if-is_empty.false)
    (attribute-refused _ _ c.in-Err-take_from.field-0 c.in-Err-take_from.ensures)

pub returns-then-is_empty-2 : goal.returns-then-is_empty-2
returns-then-is_empty-2 c =
    all-said c.args.strict _ _ _ (OneMore c.in-Ok.ensures (OneMore c.in-Ok-take_from.ensures NoneYet))
    (c.is_empty-2.ensures.0 c.if-is_empty-2.true) c.of-then-is_empty-2.result
    c.of-then-is_empty-2.ensures

pub returns-in-Err-take_from-2 : goal.returns-in-Err-take_from-2
returns-in-Err-take_from-2 c =
    none-next c.args.strict _ _ _ (OneMore c.in-Ok.ensures (OneMore c.in-Ok-take_from.ensures NoneYet))
    (iff_false c.is_empty-2.ensures c.if-is_empty-2.false)
    (attribute-refused _ _ c.in-Err-take_from-2.field-0 c.in-Err-take_from-2.ensures)

pub returns-then-is_empty-3 : goal.returns-then-is_empty-3
returns-then-is_empty-3 c =
    all-said c.args.strict _ _ _
    (OneMore c.in-Ok.ensures (OneMore c.in-Ok-take_from.ensures (OneMore c.in-Ok-take_from-2.ensures NoneYet)))
    (c.is_empty-3.ensures.0 c.if-is_empty-3.true) c.of-then-is_empty-3.result
    c.of-then-is_empty-3.ensures

pub returns-in-Err-take_from-3 : goal.returns-in-Err-take_from-3
returns-in-Err-take_from-3 c =
    none-next c.args.strict _ _ _
    (OneMore c.in-Ok.ensures (OneMore c.in-Ok-take_from.ensures (OneMore c.in-Ok-take_from-2.ensures NoneYet)))
    (iff_false c.is_empty-3.ensures c.if-is_empty-3.false)
    (attribute-refused _ _ c.in-Err-take_from-3.field-0 c.in-Err-take_from-3.ensures)

pub returns-then-not-is_empty : goal.returns-then-not-is_empty
returns-then-not-is_empty c =
    too-many c.args.strict _ _ _
    (OneMore c.in-Ok.ensures (OneMore c.in-Ok-take_from.ensures (OneMore c.in-Ok-take_from-2.ensures
    (OneMore c.in-Ok-take_from-3.ensures NoneYet)))) refl
    (iff_false c.is_empty-4.ensures c.if-not-is_empty.true)

pub returns : goal.returns
returns c =
    all-said c.args.strict _ _ _
    (OneMore c.in-Ok.ensures (OneMore c.in-Ok-take_from.ensures (OneMore c.in-Ok-take_from-2.ensures
    (OneMore c.in-Ok-take_from-3.ensures NoneYet)))) (c.is_empty-4.ensures.0 c.if-not-is_empty.false) c.of-2.result
    c.of-2.ensures
