use Rattle.rpki_time.specs.Time.{cut}
use Rattle.rpki_time.specs.TimeValue.{SpellsTime, IsTimeFault, time_octets, utc_octets, generalized_octets}
use Rattle.rpki_time.proofs.ReadBackLaws.{was-read}
use Rattle.rpki_time.proofs.TimeValueLaws.{in-front, time_spelled, utc-spelled, generalized-spelled, utc-only-in-window}
use Rattle.rpki_time.proofs.TimeValueLaws.{time-read_back}
use Rattle.rpki_time.proofs.laws.times_read_back.Goals as goal

pub returns-clause-varied : goal.returns-clause-varied
returns-clause-varied c = λ t rest y e.
    time-read_back _ _ c.take_from.result (cut t) rest c.take_from.ensures
    (in-front _ (time_octets t) rest (cut t) e (time_spelled t y))

pub returns-clause-generalized : goal.returns-clause-generalized
returns-clause-generalized c = λ t rest y e.
    time-read_back _ _ c.take_from.result (cut t) rest c.take_from.ensures
    (in-front _ (generalized_octets t) rest (cut t) e (generalized-spelled t y))

pub returns-clause-utc : goal.returns-clause-utc
returns-clause-utc c = λ t rest e. (
  λ h. utc-only-in-window _ rest t _ e (was-read SpellsTime IsTimeFault _ _ c.take_from.result (cut t)
      c.take_from.ensures h.0),
  λ y. time-read_back _ _ c.take_from.result (cut t) rest c.take_from.ensures
      (in-front _ (utc_octets t) rest (cut t) e (utc-spelled t y)),
)
