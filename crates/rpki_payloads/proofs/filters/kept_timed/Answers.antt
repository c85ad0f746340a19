use Rattle.std.proofs.Common.{◌≡◌, true}
use Rattle.std.proofs.lemmas.List.{nil_from_length}
use Rattle.rpki_payloads.specs.FilterKeys.{AskFor}
use Rattle.rpki_payloads.proofs.AmongLaws.{kept-all, one-kept, one-out}
use Rattle.rpki_payloads.proofs.filters.kept_timed.Goals as goal

pub all-preserved-in_ok-push : goal.all-preserved-in_ok-push
all-preserved-in_ok-push c =
    rw c.in_ok-push.ensures.items
    (one-kept (λ t. AskFor c.args.filters.now t.vrp) c.args.all.now c.all.rest.now c.in-Some.following.now
    c.all.kept.items c.in-Some.first.now c.in-Some.ensures.cases.0 c.all.invariant
    (λ h. let t : c.ask_for.result ≡ true = c.ask_for.ensures.1 h in absurd (cc c.if-not-ask_for.true)))

pub all-preserved : goal.all-preserved
all-preserved c =
    one-out (λ t. AskFor c.args.filters.now t.vrp) c.args.all.now c.all.rest.now c.in-Some.following.now
    c.all.kept.items c.in-Some.first.now c.in-Some.ensures.cases.0 c.all.invariant
    (c.ask_for.ensures.0 c.if-not-ask_for.false)

pub returns : goal.returns
returns c =
    kept-all (λ t. AskFor c.args.filters.now t.vrp) c.args.all.now c.all.rest.now c.all.kept.items c.all.invariant
    (nil_from_length c.all.rest.now c.in_default.ensures.cases)
