use Rattle.std.proofs.Common.{refl}
use Rattle.rpki_der.specs.MembersLeft.{numbers_left}
use Rattle.rpki_der.proofs.members.MembersClone.clone.Goals as goal

pub returns : goal.returns
unfolding numbers_left
returns c = record { cases = refl }
