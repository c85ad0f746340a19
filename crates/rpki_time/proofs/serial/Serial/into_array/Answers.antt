use Rattle.rpki_time.proofs.SerialLaws.{twenty-below}
use Rattle.rpki_time.proofs.serial.Serial.into_array.Goals as goal

pub returns-clause-below : goal.returns-clause-below
returns-clause-below c =
    rw (← c.self.view_is) (twenty-below c.self.inside.octets c.self.invariant.0 c.self.invariant.1 c.self.invariant.2)
