use Rattle.rpki_resources.specs.InPlace.{Holds}
use Rattle.rpki_resources.proofs.FollowLaws.{blocks-following}
use Rattle.rpki_resources.proofs.view.BlocksView.blocks.Goals as goal

pub invariant_of-result : goal.invariant_of-result
invariant_of-result c = let k = c.self.invariant in
    (k.0, rw c.from_slice.ensures (blocks-following c.self.inside.kind k.0 _ k.1.blocks))

pub returns-clause-blocks : goal.returns-clause-blocks
returns-clause-blocks c = λ bs h.
    let k : Holds _ bs = rw (← c.self.view_is) at h in
    rw c.from_slice.ensures (blocks-following c.self.inside.kind bs _ k.blocks)

pub returns-clause-held : goal.returns-clause-held
returns-clause-held c = let k = c.self.invariant in (k.0, rw (← c.self.view_is) k.1)
