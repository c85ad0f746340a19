use Rattle.std.proofs.Common.{refl}
use Rattle.rpki_c.proofs.MomentLaws.{moment}
use Rattle.rpki_c.proofs.times.read_time.Goals as goal

pub returns-in-Ok-clause-ok : goal.returns-in-Ok-clause-ok
returns-in-Ok-clause-ok c =
    let h = c.in-Ok.ensures in
    record {
      time = c.in-Ok.time;
      spelled = h.0;
      moment = moment c.moment_of.ensures refl h.0;
    }
