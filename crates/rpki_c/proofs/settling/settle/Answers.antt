use Rattle.std.proofs.Common.{subst, sym}
use Rattle.rpki_resources.specs.declared.choice.ResourcesChoice.{ResourcesChoice}
use Rattle.rpki_resources.specs.Settled.{IsWithin, IsSettled}
use Rattle.rpki_cert.specs.declared.extension.policy.Overclaim.{Overclaim}
use Rattle.rpki_c.specs.Settling.{IsSettledBy}
use Rattle.rpki_c.proofs.settling.settle.Goals as goal

pub returns-in-Ok-clause-settled : goal.returns-in-Ok-clause-settled
returns-in-Ok-clause-settled c = λ v h.
    let same = c.in_ok-kept.ensures.kept.1 v h in
    subst (λ (p : Overclaim). IsSettledBy p v c.args.issuer.now c.in-Ok.blocks) (sym c.in-Refuse.is)
    (subst (λ (w : ResourcesChoice). IsSettled w c.args.issuer.now c.in-Ok.blocks) (sym same) c.in-Ok.ensures.settled)

pub returns-in-Refuse-clause-refused : goal.returns-in-Refuse-clause-refused
returns-in-Refuse-clause-refused c = λ is v h subject s.
    let same = c.in_ok-kept.ensures.kept.1 v h in
    let settled : IsSettled v c.args.issuer.now subject =
    subst (λ (p : Overclaim). IsSettledBy p v c.args.issuer.now subject) c.in-Refuse.is s in
    c.in-Err.ensures.refused.0 is (subst (λ (w : ResourcesChoice). IsWithin w c.args.issuer.now) same settled.within)
