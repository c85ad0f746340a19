use Rattle.rpki_der.proofs.NestedFaultLaws.{fault-or-value}
use Rattle.rpki_der.proofs.laws.no_value_at_a_fault.Goals as goal

pub returns : goal.returns
returns c = λ s value rest e f v is. fault-or-value rest f v is
