use Rattle.std.proofs.Common.{refl}
use Rattle.rpki_cert.specs.View.FirstWrong.{AtPart, Later}
use Rattle.rpki_cert.proofs.FieldsLaws.{period-refused, named-read}
use Rattle.rpki_x509.proofs.NameViewLaws.{name-refused}
use Rattle.rpki_cert.proofs.OneLaws.{has-then}
use Rattle.rpki_cert.proofs.read.fields.read_named.Goals as goal

pub returns-in-Err-clause-err : goal.returns-in-Err-clause-err
returns-in-Err-clause-err c = AtPart (name-refused _ _ c.in-Err.e c.in-Err.ensures) c.in-Err.ensures.kind refl

pub returns-in-Err-take_from-clause-err : goal.returns-in-Err-take_from-clause-err
returns-in-Err-take_from-clause-err c =
    let h = c.in-Err-take_from.ensures in
    Later _ _ c.in-Ok.ensures.1 (AtPart (period-refused _ _ c.in-Err-take_from.e h) h.kind refl)

pub returns-in-Err-take_name-clause-err : goal.returns-in-Err-take_name-clause-err
returns-in-Err-take_name-clause-err c =
    let h = c.in-Err-take_name.ensures in
    Later _ _ c.in-Ok.ensures.1 (Later _ _ c.in-Ok-take_from.ensures
    (AtPart (name-refused _ _ c.in-Err-take_name.e h) h.kind refl))

pub returns-in-Err-read_keyed-clause-err : goal.returns-in-Err-read_keyed-clause-err
returns-in-Err-read_keyed-clause-err c =
    Later _ _ c.in-Ok.ensures.1 (Later _ _ c.in-Ok-take_from.ensures
    (Later _ _ c.in-Ok-take_name.ensures.1 c.in-Err-read_keyed.ensures.err))

pub returns-in-Ok-read_keyed-clause-ok : goal.returns-in-Ok-read_keyed-clause-ok
returns-in-Ok-read_keyed-clause-ok c =
    named-read _ _ _ _ _ _ _ _ c.in-Ok.ensures.1 c.in-Ok.ensures.2 c.in-Ok-take_from.ensures refl
    c.in-Ok-take_name.ensures.1 c.in-Ok-take_name.ensures.2 c.in-Ok-read_keyed.ensures.ok

pub returns-in-Ok-read_keyed-clause-one : goal.returns-in-Ok-read_keyed-clause-one
returns-in-Ok-read_keyed-clause-one c =
    has-then _ _ _ _ _ c.in-Ok.ensures.1 (has-then _ _ _ _ _ c.in-Ok-take_from.ensures
    (has-then _ _ _ _ _ c.in-Ok-take_name.ensures.1 c.in-Ok-read_keyed.ensures.one))
