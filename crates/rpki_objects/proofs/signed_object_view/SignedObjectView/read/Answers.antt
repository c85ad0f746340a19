use Rattle.std.proofs.Common.{refl}
use Rattle.rpki_objects.specs.declared.object_part.ObjectPart.{ObjectPart}
use Rattle.rpki_parse.specs.Parts.{malformed}
use Rattle.rpki_objects.specs.SignedObjectView.FirstWrong.{Later}
use Rattle.rpki_objects.specs.SignedObjectView.WrongWithin.{Outside, Inside}
use Rattle.rpki_objects.proofs.ObjectViewLaws.{object-handed}
use Rattle.rpki_objects.proofs.ObjectWrongLaws.{type-wrong, object-more, within-data, handed-wrong, handed-more}
use Rattle.rpki_objects.proofs.signed_object_view.SignedObjectView.read.Goals as goal

pub returns-in-Err-clause-err : goal.returns-in-Err-clause-err
returns-in-Err-clause-err c =
    let h = rw c.from_slice.ensures at c.in-Err.ensures.gives in
    let k = rw c.from_slice.ensures at c.in-Err.ensures.fault in
    Outside h k refl

pub returns-in-Err-clause-none : goal.returns-in-Err-clause-none
returns-in-Err-clause-none c =
    let h = rw c.from_slice.ensures at c.in-Err.ensures.gives in
    let k = rw c.from_slice.ensures at c.in-Err.ensures.fault in
    object-more c.args.strict _ (malformed ObjectPart.Object c.in-Err.error) (Outside h k refl)

pub returns-in-Err-skip_oid_if-clause-err : goal.returns-in-Err-skip_oid_if-clause-err
returns-in-Err-skip_oid_if-clause-err c =
    let h = rw c.from_slice.ensures at c.in-Ok.ensures.gives in
    Inside _ h.0 h.1 (type-wrong _ _ _ _ c.in-Err-skip_oid_if.ensures)

pub returns-in-Err-skip_oid_if-clause-none : goal.returns-in-Err-skip_oid_if-clause-none
returns-in-Err-skip_oid_if-clause-none c =
    let h = rw c.from_slice.ensures at c.in-Ok.ensures.gives in
    object-more c.args.strict _ _
    (Inside _ h.0 h.1 (type-wrong ObjectPart.ObjectType _ _ _ c.in-Err-skip_oid_if.ensures))

pub returns-in-Err-inside-clause-err : goal.returns-in-Err-inside-clause-err
returns-in-Err-inside-clause-err c =
    let h = rw c.from_slice.ensures at c.in-Ok.ensures.gives in
    let k = rw c.new.ensures at c.in-Err-inside.ensures.gives in
    let e = rw c.new.ensures at c.in-Err-inside.ensures.fault in
    Inside _ h.0 h.1 (Later _ _ c.in-Ok-skip_oid_if.ensures (Outside k e refl))

pub returns-in-Err-inside-clause-none : goal.returns-in-Err-inside-clause-none
returns-in-Err-inside-clause-none c =
    let h = rw c.from_slice.ensures at c.in-Ok.ensures.gives in
    let k = rw c.new.ensures at c.in-Err-inside.ensures.gives in
    let e = rw c.new.ensures at c.in-Err-inside.ensures.fault in
    object-more c.args.strict _ (malformed ObjectPart.SignedData c.in-Err-inside.error)
    (Inside _ h.0 h.1 (Later _ _ c.in-Ok-skip_oid_if.ensures (Outside k e refl)))

pub returns-in-Err-inside-2-clause-err : goal.returns-in-Err-inside-2-clause-err
returns-in-Err-inside-2-clause-err c =
    let h = rw c.from_slice.ensures at c.in-Ok.ensures.gives in
    let k = rw c.new.ensures at c.in-Ok-inside.ensures.gives in
    within-data c.args.strict _ _ _ _ h c.in-Ok-skip_oid_if.ensures k _
    (Outside c.in-Err-inside-2.ensures.gives c.in-Err-inside-2.ensures.fault refl)

pub returns-in-Err-inside-2-clause-none : goal.returns-in-Err-inside-2-clause-none
returns-in-Err-inside-2-clause-none c =
    let h = rw c.from_slice.ensures at c.in-Ok.ensures.gives in
    let k = rw c.new.ensures at c.in-Ok-inside.ensures.gives in
    object-more c.args.strict _ (malformed ObjectPart.SignedData c.in-Err-inside-2.error)
    (within-data c.args.strict _ _ _ _ h c.in-Ok-skip_oid_if.ensures k _
    (Outside c.in-Err-inside-2.ensures.gives c.in-Err-inside-2.ensures.fault refl))

pub returns-in-Ok-inside-2-clause-ok : goal.returns-in-Ok-inside-2-clause-ok
returns-in-Ok-inside-2-clause-ok c =
    let h = rw c.from_slice.ensures at c.in-Ok.ensures.gives in
    let k = rw c.new.ensures at c.in-Ok-inside.ensures.gives in
    object-handed c.args.strict _ _ _ _ _ h.0 c.in-Ok-skip_oid_if.ensures k.0 c.in-Ok-inside-2.ensures.gives.0
    c.read_fields.result c.read_fields.ensures.ok

pub returns-in-Ok-inside-2-clause-err : goal.returns-in-Ok-inside-2-clause-err
returns-in-Ok-inside-2-clause-err c =
    let h = rw c.from_slice.ensures at c.in-Ok.ensures.gives in
    let k = rw c.new.ensures at c.in-Ok-inside.ensures.gives in
    handed-wrong c.args.strict _ _ _ _ h c.in-Ok-skip_oid_if.ensures k _ c.in-Ok-inside-2.ensures.gives
    c.read_fields.result c.read_fields.ensures.err

pub returns-in-Ok-inside-2-clause-none : goal.returns-in-Ok-inside-2-clause-none
returns-in-Ok-inside-2-clause-none c =
    let h = rw c.from_slice.ensures at c.in-Ok.ensures.gives in
    let k = rw c.new.ensures at c.in-Ok-inside.ensures.gives in
    handed-more c.args.strict _ _ _ _ h c.in-Ok-skip_oid_if.ensures k _ c.in-Ok-inside-2.ensures.gives
    c.read_fields.result c.read_fields.ensures.err
