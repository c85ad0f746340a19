use Rattle.std.proofs.Common.{◌∙◌, sym}
use Rattle.rpki_text.proofs.EqualLaws.{same-from-parts, same-parts}
use Rattle.rpki_validation.specs.Named.{FollowsPlace}
use Rattle.rpki_validation.proofs.NamedLaws.{follows-at, follows-none, not-so}
use Rattle.rpki_validation.proofs.named.follows.Goals as goal

pub returns-in-Some-2 : goal.returns-in-Some-2
returns-in-Some-2 c =
    follows-at c.args.place.now c.args.tbs.now c.in_ok-other.field-0 c.in_ok-other.ensures _ c.in-Some-2.other
    c.in-Some.is c.in-Some-2.is c.eq.result (λ e. same-parts _ _ (sym c.eq.ensures ∙ e))
    (λ e. c.eq.ensures ∙ same-from-parts _ _ e)

pub returns-in-None : goal.returns-in-None
returns-in-None c =
    not-so (FollowsPlace c.args.place.now c.args.tbs.now)
    (follows-none c.args.place.now c.args.tbs.now c.in_ok-other.field-0 c.in_ok-other.ensures c.in-None.is)
