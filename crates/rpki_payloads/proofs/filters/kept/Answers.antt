use Rattle.std.proofs.Common.{◌≡◌, true}
use Rattle.std.proofs.lemmas.List.{nil_from_length}
use Rattle.rpki_payloads.specs.FilterKeys.{AskFor}
use Rattle.rpki_payloads.proofs.AmongLaws.{kept-all, one-kept, one-out}
use Rattle.rpki_payloads.proofs.filters.kept.Goals as goal

pub vrps-preserved-in_ok-push : goal.vrps-preserved-in_ok-push
vrps-preserved-in_ok-push c =
    rw c.in_ok-push.ensures.items
    (one-kept (AskFor c.args.filters.now) c.args.vrps.now c.vrps.rest.now c.in-Some.following.now
    c.vrps.kept.items c.in-Some.first.now c.in-Some.ensures.cases.0 c.vrps.invariant
    (λ h. let t : c.ask_for.result ≡ true = c.ask_for.ensures.1 h in absurd (cc c.if-not-ask_for.true)))

pub vrps-preserved : goal.vrps-preserved
vrps-preserved c =
    one-out (AskFor c.args.filters.now) c.args.vrps.now c.vrps.rest.now c.in-Some.following.now c.vrps.kept.items
    c.in-Some.first.now c.in-Some.ensures.cases.0 c.vrps.invariant (c.ask_for.ensures.0 c.if-not-ask_for.false)

pub returns : goal.returns
returns c =
    kept-all (AskFor c.args.filters.now) c.args.vrps.now c.vrps.rest.now c.vrps.kept.items c.vrps.invariant
    (nil_from_length c.vrps.rest.now c.in_default.ensures.cases)
