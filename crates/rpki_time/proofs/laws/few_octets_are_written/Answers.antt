use Rattle.rpki_time.proofs.SerialReadingLaws.{serial-few}
use Rattle.rpki_time.proofs.TimeValueLaws.{time-few}
use Rattle.rpki_time.proofs.PeriodReadingLaws.{period-few}
use Rattle.rpki_time.proofs.laws.few_octets_are_written.Goals as goal

pub returns-clause-serial : goal.returns-clause-serial
returns-clause-serial c = serial-few

pub returns-clause-time : goal.returns-clause-time
returns-clause-time c = time-few

pub returns-clause-period : goal.returns-clause-period
returns-clause-period c = period-few
