use Rattle.rpki_der.proofs.NestedFaultLaws.{cut-value}
use Rattle.rpki_der.proofs.laws.cut_value_is_truncated.Goals as goal

pub returns : goal.returns
returns c = cut-value
