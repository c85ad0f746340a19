use Rattle.rpki_der.proofs.MembersLaws.{one-reading}
use Rattle.rpki_der.proofs.laws.one_list_of_members.Goals as goal

pub returns : goal.returns
returns c = one-reading
