use Rattle.std.proofs.lemmas.Bool.{iff_false}
use Rattle.rpki_x509.proofs.FrameLaws.{extension-refused}
use Rattle.rpki_crl.proofs.TwoLaws.{first-refused, second-refused, more-follows, whole-two}
use Rattle.rpki_crl.proofs.crl_extensions.read_two.Goals as goal

pub returns-in-Err : goal.returns-in-Err
returns-in-Err c = first-refused _ (extension-refused _ _ c.in-Err.field-0 c.in-Err.ensures)

pub returns-in-Err-take_from : goal.returns-in-Err-take_from
returns-in-Err-take_from c =
    second-refused _ _ _ c.in-Ok.ensures (extension-refused _ _ c.in-Err-take_from.field-0 c.in-Err-take_from.ensures)

pub returns-then-not-is_empty : goal.returns-then-not-is_empty
returns-then-not-is_empty c =
    more-follows _ _ _ c.in-Ok.ensures _ _ c.in-Ok-take_from.ensures
    (iff_false c.is_empty.ensures c.if-not-is_empty.true)

pub returns : goal.returns
returns c =
    whole-two _ _ _ c.in-Ok.ensures _ _ c.in-Ok-take_from.ensures (c.is_empty.ensures.0 c.if-not-is_empty.false)
    c.of_two.result c.of_two.ensures.some c.of_two.ensures.only c.of_two.ensures.none
