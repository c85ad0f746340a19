use Rattle.std.proofs.Common.{refl}
use Rattle.rpki_fields.proofs.object.revocation_list.Goals as goal

pub returns-in-Ok : goal.returns-in-Ok
returns-in-Ok c = (c.in-Ok.list, c.in-Ok.ensures, refl)
