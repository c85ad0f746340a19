use Rattle.std.proofs.Common.{refl}
use Rattle.rpki_der.proofs.NestedFaultLaws.{one-fault}
use Rattle.rpki_der.proofs.laws.one_nested_fault.Goals as goal

pub returns : goal.returns
returns c = λ s d e f g. one-fault f g refl
