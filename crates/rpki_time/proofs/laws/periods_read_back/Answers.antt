use Rattle.rpki_time.specs.PeriodValue.{SpellsPeriod, IsPeriodFault}
use Rattle.rpki_time.specs.Validity.{cut_period}
use Rattle.rpki_time.proofs.ReadBackLaws.{reads-back}
use Rattle.rpki_time.proofs.PeriodReadingLaws.{period-there, period-no-memory}
use Rattle.rpki_time.proofs.laws.periods_read_back.Goals as goal

pub returns : goal.returns
returns c = λ p rest y e.
    reads-back SpellsPeriod IsPeriodFault _ _ c.take_from.result (cut_period p) rest (period-no-memory _)
    c.take_from.ensures (period-there _ rest p y e)
