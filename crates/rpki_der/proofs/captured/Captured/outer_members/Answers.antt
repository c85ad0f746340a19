use Rattle.std.proofs.Common.{refl}
use Rattle.rpki_der.specs.MembersLeft.{numbers_left}
use Rattle.rpki_der.proofs.IndexOrderLaws.{index-in-order}
use Rattle.rpki_der.proofs.captured.Captured.outer_members.Goals as goal

pub invariant_of-result : goal.invariant_of-result
invariant_of-result c = record { ordered = index-in-order c.headers.ensures.index; ends = λ p is. absurd (cc) }

pub returns : goal.returns
unfolding numbers_left
returns c = (c.headers.result.now, c.headers.ensures.index, refl)
