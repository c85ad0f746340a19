use Rattle.rpki_der.proofs.MembersLaws.{value-alone}
use Rattle.rpki_der.proofs.laws.no_value_begins_a_value.Goals as goal

pub returns : goal.returns
returns c = value-alone
