use Rattle.rpki_der.specs.Prelude.{low_octets-full}
use Rattle.rpki_time.proofs.serial.SerialHash.hash.Goals as goal

pub returns : goal.returns
returns g c =
    rw (← c.self.view_is, low_octets-full c.self.inside.octets 20 c.self.invariant.0 c.self.invariant.1) c.hash.ensures
