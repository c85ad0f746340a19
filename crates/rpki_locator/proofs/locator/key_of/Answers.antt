use Rattle.std.proofs.Common.{refl}
use Rattle.rpki_locator.proofs.locator.key_of.Goals as goal

pub returns-in-Err-decode : goal.returns-in-Err-decode
returns-in-Err-decode c = record { ok = tt; err = (refl, rw c.in-Ok.ensures.ok at c.in-Err-decode.ensures) }
