use Rattle.rpki_time.proofs.SerialReadingLaws.{serial-read_back, serial-same-octets, serial-spelled}
use Rattle.rpki_time.proofs.laws.serials_read_back.Goals as goal

pub returns-clause-spelled : goal.returns-clause-spelled
returns-clause-spelled c = serial-spelled

pub returns-clause-read : goal.returns-clause-read
returns-clause-read c = λ n rest small e. serial-read_back _ _ c.take_from.result n rest small e c.take_from.ensures

pub returns-clause-written : goal.returns-clause-written
returns-clause-written c = serial-same-octets _ _ c.take_from.result c.take_from.ensures
