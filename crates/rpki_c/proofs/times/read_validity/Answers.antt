use Rattle.rpki_c.proofs.MomentLaws.{moment}
use Rattle.rpki_c.proofs.times.read_validity.Goals as goal

pub returns-in-Ok-clause-ok : goal.returns-in-Ok-clause-ok
returns-in-Ok-clause-ok c =
    let h = c.in-Ok.ensures.0 in
    record {
      period = c.in-Ok.period;
      spelled = h;
      not_before = moment c.moment_of.ensures c.not_before.ensures h.spelled.not_before;
      not_after = moment c.moment_of-in-Ok.ensures c.not_after.ensures h.spelled.not_after;
    }
