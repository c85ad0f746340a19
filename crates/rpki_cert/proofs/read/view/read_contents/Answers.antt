use Rattle.std.proofs.Common.{refl}
use Rattle.std.proofs.lemmas.Bool.{iff_false}
use Rattle.rpki_cert.specs.View.AreContentsWrong.{InParts}
use Rattle.rpki_cert.specs.View.FirstWrong.{AtPart}
use Rattle.rpki_cert.proofs.read.view.read_contents.Goals as goal

pub returns-in-None-clause-err : goal.returns-in-None-clause-err
returns-in-None-clause-err c = InParts (AtPart c.in-None.ensures c.value_fault.ensures refl)

pub value_fault-requires : goal.value_fault-requires
value_fault-requires c = c.in-None.ensures

pub returns-in-Ok-clause-ok : goal.returns-in-Ok-clause-ok
returns-in-Ok-clause-ok c = rw c.in-Some.ensures.0 c.in-Ok.ensures.ok

pub returns-then-is_value-clause-err : goal.returns-then-is_value-clause-err
returns-then-is_value-clause-err c =
    rw c.in-Some.ensures.0 (c.in-Err.ensures.err (c.is_value.ensures.0 c.if-is_value.true))

pub value_fault-requires-else-is_value : goal.value_fault-requires-else-is_value
value_fault-requires-else-is_value c =
    c.in-Some.ensures.1 (iff_false c.is_value.ensures c.if-is_value.false)

pub returns-else-is_value-clause-err : goal.returns-else-is_value-clause-err
returns-else-is_value-clause-err c =
    InParts (AtPart (c.in-Some.ensures.1 (iff_false c.is_value.ensures c.if-is_value.false))
    c.value_fault-else-is_value.ensures refl)
