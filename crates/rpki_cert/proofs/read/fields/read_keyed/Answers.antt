use Rattle.std.proofs.Common.{refl}
use Rattle.rpki_cert.specs.View.FirstWrong.{AtPart, Later}
use Rattle.rpki_cert.proofs.FieldsLaws.{key-refused, keyed-read}
use Rattle.rpki_cert.proofs.OneLaws.{has-then, extensions-one}
use Rattle.rpki_cert.proofs.read.fields.read_keyed.Goals as goal

pub returns-in-Err-clause-err : goal.returns-in-Err-clause-err
returns-in-Err-clause-err c = AtPart (key-refused _ _ c.in-Err.e c.in-Err.ensures) c.in-Err.ensures.kind refl

pub returns-in-Err-read_extensions-clause-err : goal.returns-in-Err-read_extensions-clause-err
returns-in-Err-read_extensions-clause-err c = Later _ _ c.in-Ok.ensures c.in-Err-read_extensions.ensures.err

pub returns-in-Ok-read_extensions-clause-ok : goal.returns-in-Ok-read_extensions-clause-ok
returns-in-Ok-read_extensions-clause-ok c =
    keyed-read _ _ _ _ _ _ c.in-Ok.ensures c.in-Ok-read_extensions.ensures.ok refl c.rest-octets.ensures
    c.rest.ensures c.before-in-Ok-read_extensions.ensures

pub returns-in-Ok-read_extensions-clause-one : goal.returns-in-Ok-read_extensions-clause-one
returns-in-Ok-read_extensions-clause-one c = has-then _ _ _ _ _ c.in-Ok.ensures (extensions-one _)
