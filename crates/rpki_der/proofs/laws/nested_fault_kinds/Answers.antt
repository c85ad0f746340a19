use Rattle.rpki_der.proofs.NestedFaultLaws.{fault-kinds}
use Rattle.rpki_der.proofs.laws.nested_fault_kinds.Goals as goal

pub returns : goal.returns
returns c = λ s e f. fault-kinds f
