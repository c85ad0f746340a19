use Rattle.rpki_validation.proofs.NamedLaws.{ok-map}
use Rattle.rpki_validation.proofs.named.is_named.Goals as goal

pub returns-then-branch : goal.returns-then-branch
returns-then-branch g c = λ published known.
    let follows = rw c.tbs.ensures at c.in_ok-follows.ensures in
    ok-map _ _ c.stands.result (λ is h. (λ t. (follows.0 c.if-branch.true, h.0 t), λ k. h.1 k.1))
    (c.stands.ensures published known)
