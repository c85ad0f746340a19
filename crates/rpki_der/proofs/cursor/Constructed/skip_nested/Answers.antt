use Rattle.std.proofs.Common.{refl, ◌∙◌}
use Rattle.std.proofs.lemmas.Bool.{iff_false}
use Rattle.rpki_der.proofs.WalkLaws.{nested-refused}
use Rattle.rpki_der.proofs.NestedLaws.{any-fault, headed-one, value-at, behind-value, nested-found, nested-missed}
use Rattle.rpki_der.proofs.NestedLaws.{primitive-found}
use Rattle.rpki_der.proofs.cursor.Constructed.skip_nested.Goals as goal

pub returns-in-Err : goal.returns-in-Err
returns-in-Err c =
    let some = iff_false c.is_empty.ensures c.if-is_empty.false in
    (some, nested-refused (any-fault _ _ some c.in-Err.ensures.kind))

pub returns-in-Ok-default-Primitive : goal.returns-in-Ok-default-Primitive
returns-in-Ok-default-Primitive c =
    let some = iff_false c.is_empty.ensures c.if-is_empty.false in
    let a = rw c.in-Ok-default-Primitive.field-0-1-is at c.in-Ok-default-Primitive.ensures in
    (some, primitive-found _ _ _ _ a)

pub nested_fault-requires : goal.nested_fault-requires
nested_fault-requires c =
    let a = c.in-Ok-default-Constructed.ensures in
    let front = c.split_at.ensures.front ∙ value-at _ _ _ _ a (rw (c.len.ensures, c.len-2.ensures) refl) in
    rw front (headed-one _ _ a.spells.spelled)

pub returns-in-None : goal.returns-in-None
returns-in-None c =
    let some = iff_false c.is_empty.ensures c.if-is_empty.false in
    let a = c.in-Ok-default-Constructed.ensures in
    let front = c.split_at.ensures.front ∙ value-at _ _ _ _ a (rw (c.len.ensures, c.len-2.ensures) refl) in
    let rest = c.split_at.ensures.following ∙ behind-value _ _ _ _ a (rw (c.len.ensures, c.len-2.ensures) refl) in
    (some, rw rest (nested-found _ _ _ _ a front c.in-None.ensures.none))

pub returns-in-Some : goal.returns-in-Some
returns-in-Some c =
    let some = iff_false c.is_empty.ensures c.if-is_empty.false in
    let a = c.in-Ok-default-Constructed.ensures in
    let front = c.split_at.ensures.front ∙ value-at _ _ _ _ a (rw (c.len.ensures, c.len-2.ensures) refl) in
    (some, nested-refused (nested-missed _ _ _ _ _ a front c.in-Some.ensures.some))
