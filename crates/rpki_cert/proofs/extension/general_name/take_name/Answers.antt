use Rattle.std.proofs.Common.{refl}
use Rattle.std.proofs.lemmas.Bool.{iff_false}
use Rattle.rpki_cert.proofs.GeneralNameLaws.{name-uri, name-other, text-refused, value-refused, other-refused}
use Rattle.rpki_cert.proofs.extension.general_name.take_name.Goals as goal

pub returns-in-Ok : goal.returns-in-Ok
returns-in-Ok c = name-uri _ _ _ (c.has_tag.ensures.0 c.if-has_tag.true) c.in-Ok.ensures

pub returns-in-Err : goal.returns-in-Err
returns-in-Err c = text-refused _ _ _ c.in-Err.e c.in-Err.ensures.unchanged (c.has_tag.ensures.0 c.if-has_tag.true)
    c.in-Err.ensures

pub returns-then-not-is_other_name : goal.returns-then-not-is_other_name
returns-then-not-is_other_name c =
    let without = iff_false c.has_tag.ensures c.if-has_tag.false in
    rw c.content.ensures (other-refused _ without _ _ c.in-Ok-take_value.ensures
    (iff_false c.is_other_name.ensures c.if-not-is_other_name.true) _ refl)

pub returns-else-not-is_other_name : goal.returns-else-not-is_other_name
returns-else-not-is_other_name c =
    name-other _ (iff_false c.has_tag.ensures c.if-has_tag.false) _ _ c.in-Ok-take_value.ensures
    (c.is_other_name.ensures.0 c.if-not-is_other_name.false)

pub returns-in-Err-take_value : goal.returns-in-Err-take_value
returns-in-Err-take_value c = value-refused _ _ _ c.in-Err-take_value.e refl
    (iff_false c.has_tag.ensures c.if-has_tag.false) c.in-Err-take_value.ensures
