use Rattle.std.proofs.Common.{◌≡◌, true, [], rules}
use Rattle.std.proofs.lemmas.List.{nil_from_length}
use Rattle.rpki_payloads.specs.Timed.{HasLater}
use Rattle.rpki_payloads.proofs.AmongLaws.{kept-all, kept-first, one-kept, one-out}
use Rattle.rpki_payloads.proofs.TimedLaws.{first-ahead, is-later, next-ahead, none-later}
use Rattle.rpki_payloads.proofs.timed.last_of_each.Goals as goal

pub all-init : goal.all-init
all-init c =
    let none : c.new-kept.result.items ≡ [] = search rules in
    (rw none (kept-first (HasLater c.args.all.now) c.args.all.now), first-ahead c.args.all.now c.requires)

pub all-preserved-in_ok-push : goal.all-preserved-in_ok-push
all-preserved-in_ok-push c =
    rw c.in_ok-push.ensures.items (
      one-kept (HasLater c.args.all.now) c.args.all.now c.all.rest.now c.in-Some.following.now c.all.kept.items
          c.in-Some.first.now c.in-Some.ensures.cases.0 c.all.invariant.0
          (none-later c.args.all.now c.all.rest.now c.in-Some.following.now c.in-Some.first.now
          c.in-Some.ensures.cases.0 c.all.invariant.1 (λ h.
          let t : c.is_followed.result ≡ true = c.is_followed.ensures.1 h in
          absurd (cc c.if-not-is_followed.true))),
      next-ahead c.args.all.now c.all.rest.now c.in-Some.following.now c.in-Some.first.now c.in-Some.ensures.cases.0
          c.all.invariant.1,
    )

pub all-preserved : goal.all-preserved
all-preserved c = (
  one-out (HasLater c.args.all.now) c.args.all.now c.all.rest.now c.in-Some.following.now c.all.kept.items
      c.in-Some.first.now c.in-Some.ensures.cases.0 c.all.invariant.0
      (is-later c.args.all.now c.all.rest.now c.in-Some.following.now c.in-Some.first.now c.in-Some.ensures.cases.0
      c.all.invariant.1 c.all.invariant.0.in_all (c.is_followed.ensures.0 c.if-not-is_followed.false)),
  next-ahead c.args.all.now c.all.rest.now c.in-Some.following.now c.in-Some.first.now c.in-Some.ensures.cases.0
      c.all.invariant.1,
)

pub returns : goal.returns
returns c =
    kept-all (HasLater c.args.all.now) c.args.all.now c.all.rest.now c.all.kept.items c.all.invariant.0
    (nil_from_length c.all.rest.now c.in_default.ensures.cases)
