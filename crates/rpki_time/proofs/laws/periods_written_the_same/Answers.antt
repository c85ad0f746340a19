use Rattle.rpki_time.proofs.PeriodReadingLaws.{period-same}
use Rattle.rpki_time.proofs.laws.periods_written_the_same.Goals as goal

pub returns : goal.returns
returns c = period-same
