use Rattle.std.proofs.Common.{inr}
use Rattle.rpki_x509.proofs.NestedLaws.{no-value}
use Rattle.rpki_x509.proofs.nested.value_fault.Goals as goal

pub returns-in-Err : goal.returns-in-Err
returns-in-Err c = inr c.in-Err.ensures.1.kind

pub returns-in-Ok : goal.returns-in-Ok
returns-in-Ok c = no-value _ _ c.in-Ok.field-0 c.requires c.in-Ok.ensures
