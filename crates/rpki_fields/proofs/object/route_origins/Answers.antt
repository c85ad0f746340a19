use Rattle.std.proofs.Common.{refl}
use Rattle.rpki_fields.proofs.object.route_origins.Goals as goal

pub returns-in-Ok : goal.returns-in-Ok
returns-in-Ok c = (c.in-Ok.origins, rw c.default.ensures at c.in-Ok.ensures, refl)

pub returns-in-Err : goal.returns-in-Err
returns-in-Err c = rw c.default.ensures at c.in-Err.ensures
