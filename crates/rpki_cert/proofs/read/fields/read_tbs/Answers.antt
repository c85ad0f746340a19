use Rattle.std.proofs.Common.{refl}
use Rattle.rpki_cert.specs.View.WholeWrong.{NoFrame}
use Rattle.rpki_cert.proofs.FieldsLaws.{tbs-handed, tbs-handed-one, tbs-handed-wrong}
use Rattle.rpki_cert.proofs.read.fields.read_tbs.Goals as goal

pub returns-in-Err-clause-err : goal.returns-in-Err-clause-err
returns-in-Err-clause-err c = NoFrame c.in-Err.ensures.gives c.in-Err.ensures.fault refl

pub returns-in-Ok-clause-ok : goal.returns-in-Ok-clause-ok
returns-in-Ok-clause-ok c = tbs-handed _ _ c.read_fields.result c.in-Ok.ensures.gives.0 c.read_fields.ensures.ok

pub returns-in-Ok-clause-one : goal.returns-in-Ok-clause-one
returns-in-Ok-clause-one c = tbs-handed-one _ _ c.read_fields.result c.in-Ok.ensures.gives.0 c.read_fields.ensures.one

pub returns-in-Ok-clause-err : goal.returns-in-Ok-clause-err
returns-in-Ok-clause-err c =
    tbs-handed-wrong _ _ _ c.read_fields.result c.in-Ok.ensures.gives.0 c.read_fields.ensures.err
