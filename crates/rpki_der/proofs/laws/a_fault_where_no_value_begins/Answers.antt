use Rattle.rpki_der.proofs.SomeFaultLaws.{some-fault}
use Rattle.rpki_der.proofs.laws.a_fault_where_no_value_begins.Goals as goal

pub returns : goal.returns
returns c = some-fault
