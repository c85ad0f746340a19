use Rattle.std.proofs.Common.{refl}
use Rattle.rpki_cert.specs.View.FirstWrong.{AtPart, Later}
use Rattle.rpki_cert.proofs.FieldsLaws.{version-refused, serial-refused, fields-read}
use Rattle.rpki_x509.proofs.FrameLaws.{algorithm-refused}
use Rattle.rpki_cert.proofs.OneLaws.{has-then}
use Rattle.rpki_cert.proofs.read.fields.read_fields.Goals as goal

pub returns-in-Err-clause-err : goal.returns-in-Err-clause-err
returns-in-Err-clause-err c =
    AtPart (version-refused _ _ c.in-Err.e c.in-Err.ensures) c.in-Err.ensures.kind refl

pub returns-in-Err-take_from-clause-err : goal.returns-in-Err-take_from-clause-err
returns-in-Err-take_from-clause-err c =
    let h = c.in-Err-take_from.ensures in
    Later _ _ c.in-Ok.ensures (AtPart (serial-refused _ _ c.in-Err-take_from.e h) h.kind refl)

pub returns-in-Err-x509_take_from-clause-err : goal.returns-in-Err-x509_take_from-clause-err
returns-in-Err-x509_take_from-clause-err c =
    let h = c.in-Err-x509_take_from.ensures in
    Later _ _ c.in-Ok.ensures (Later _ _ c.in-Ok-take_from.ensures
    (AtPart (algorithm-refused _ _ c.in-Err-x509_take_from.e h) h.kind refl))

pub returns-in-Err-read_named-clause-err : goal.returns-in-Err-read_named-clause-err
returns-in-Err-read_named-clause-err c =
    Later _ _ c.in-Ok.ensures (Later _ _ c.in-Ok-take_from.ensures
    (Later _ _ c.in-Ok-x509_take_from.ensures c.in-Err-read_named.ensures.err))

pub returns-in-Ok-read_named-clause-ok : goal.returns-in-Ok-read_named-clause-ok
returns-in-Ok-read_named-clause-ok c =
    fields-read _ _ _ _ _ _ _ c.in-Ok.ensures c.in-Ok-take_from.ensures refl c.in-Ok-x509_take_from.ensures refl
    c.in-Ok-read_named.ensures.ok

pub returns-in-Ok-read_named-clause-one : goal.returns-in-Ok-read_named-clause-one
returns-in-Ok-read_named-clause-one c =
    has-then _ _ _ _ _ c.in-Ok.ensures (has-then _ _ _ _ _ c.in-Ok-take_from.ensures
    (has-then _ _ _ _ _ c.in-Ok-x509_take_from.ensures c.in-Ok-read_named.ensures.one))
