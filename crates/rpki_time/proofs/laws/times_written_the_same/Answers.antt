use Rattle.rpki_time.proofs.TimeValueLaws.{time-same}
use Rattle.rpki_time.proofs.laws.times_written_the_same.Goals as goal

pub returns : goal.returns
returns c = time-same
