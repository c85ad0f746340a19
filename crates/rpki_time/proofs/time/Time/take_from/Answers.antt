use Rattle.std.proofs.Common.{refl}
use Rattle.rpki_time.proofs.TimeReadingLaws.{primitive-refused, time-accepted, time-malformed}
use Rattle.rpki_time.proofs.time.Time.take_from.Goals as goal

pub returns-in-Err : goal.returns-in-Err
returns-in-Err c = primitive-refused _ _ _ c.in-Err.ensures

pub returns-in-Some : goal.returns-in-Some
returns-in-Some c = time-accepted _ _ _ _ c.in-Some.time c.in-Ok.ensures c.in-Some.ensures.value

pub returns-in-None : goal.returns-in-None
returns-in-None c = rw c.content.ensures (time-malformed _ _ _ _ _ c.in-Ok.ensures c.in-None.ensures.none refl)
