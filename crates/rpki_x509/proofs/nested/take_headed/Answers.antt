use Rattle.rpki_der.proofs.NestedLaws.{any-refused}
use Rattle.rpki_x509.proofs.NestedLaws.{value-missing, headed-there}
use Rattle.rpki_x509.proofs.nested.take_headed.Goals as goal

pub returns-in-Ok : goal.returns-in-Ok
returns-in-Ok c = headed-there _ _ _ _ _ _ c.in-Ok.ensures c.rest-octets.ensures c.rest.ensures c.before-in-Ok.ensures

pub returns-in-Err : goal.returns-in-Err
returns-in-Err c = value-missing _ (any-refused _ _ c.in-Err.field-0 c.in-Err.ensures)
