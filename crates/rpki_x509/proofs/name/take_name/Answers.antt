use Rattle.std.proofs.Common.{ap, length}
use Rattle.rpki_x509.proofs.name.take_name.Goals as goal

pub returns-in-Ok : goal.returns-in-Ok
returns-in-Ok c =
    (_, c.in-Ok.ensures, record { octets = c.octets.ensures.octets; following = ap length c.rest.ensures })
