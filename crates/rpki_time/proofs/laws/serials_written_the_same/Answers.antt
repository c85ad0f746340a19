use Rattle.rpki_time.proofs.SerialReadingLaws.{serial-same}
use Rattle.rpki_time.proofs.laws.serials_written_the_same.Goals as goal

pub returns : goal.returns
returns c = serial-same
