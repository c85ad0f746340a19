use Rattle.std.proofs.Common.{List, true, subst}
use Rattle.rpki_validation.specs.Basis.{basis_of}
use Rattle.rpki_validation.specs.Waiting.{AddsWaiting, Entry}
use Rattle.rpki_validation.proofs.WalkLaws.{deep-sisters, first-sister, looked-at, looks-under, more-sisters}
use Rattle.rpki_validation.proofs.WalkLaws.{passed, rest-sisters, start-sisters, walked-all, walked-start}
use Rattle.rpki_validation.proofs.walk.walk.Goals.{else-branch, then-branch+in_ok-look_at}
use Rattle.rpki_validation.proofs.walk.walk.Goals as goal

pub turns-init : goal.turns-init
turns-init g c =
    let p = g.P.Provider in
    let anchor = c.args.anchor in
    let adds = subst (λ (w : List (Entry g.row.P.Denot)). AddsWaiting true anchor w c.add.new.self)
    c.new-waiting.ensures
    c.in_ok-add.ensures in
    record {
      sisters = start-sisters anchor c.args.at c.add.new.self c.requires.period c.requires.depth adds;
      walked = λ published known uris sole.
          walked-start published (basis_of p anchor c.args.at) uris anchor sole
          c.new-looked.result c.new-outcome.result c.add.new.self c.new-looked.ensures.named
          c.new-looked.ensures.places c.new-outcome.ensures.origins c.new-outcome.ensures.providers
          c.new-outcome.ensures.routers c.new-outcome.ensures.rejections c.requires.depth c.requires.own adds;
    }

pub returns-in_default : goal.returns-in_default
returns-in_default g c = λ published known uris sole.
    let p = g.P.Provider in
    walked-all published (basis_of p c.args.anchor c.args.at) uris c.args.anchor
    sole c.turns.waiting c.turns.looked c.turns.outcome (c.turns.invariant.walked published known uris sole)
    c.in_default.ensures.none

pub look_at-requires : goal.look_at-requires
look_at-requires g c =
    let anchor = c.args.anchor in
    (first-sister anchor.terms anchor.provider c.args.at c.in-Some.authority c.in-Some.is_named c.turns.waiting
    c.take_first.new.self c.in-Some.ensures.some c.turns.invariant.sisters).period

pub turns-preserved : goal.turns-preserved
turns-preserved g c =
    let p = g.P.Provider in
    let anchor = c.args.anchor in
    let at = c.args.at in
    let basis = basis_of p anchor at in
    let a = c.in-Some.authority in
    let b = c.in-Some.is_named in
    let old = c.turns.waiting in
    let rest = c.take_first.new.self in
    let first = c.in-Some.ensures.some in
    let before = c.turns.invariant in
    let sister = first-sister anchor.terms anchor.provider at a b old rest first before.sisters in
    elim c.if-branch.branch [
      | then-branch+in_ok-look_at w ↦
          let looks = w.in_ok-look_at.ensures in
          let insert = rw w.if-branch.true at c.in_ok-insert.ensures in
          rw w.waiting-is
          (rw w.outcome-is
          (record {
            sisters = more-sisters anchor.terms anchor.provider at a b old rest first before.sisters
                w.look_at.new.waiting looks.waiting;
            walked = λ published known uris sole.
                looked-at published basis uris anchor sole a old rest c.turns.looked c.insert.new.self c.turns.outcome
                w.look_at.new.waiting w.look_at.new.outcome b
                (looks-under p published at anchor.terms anchor.provider b a
                rest w.look_at.new.waiting c.turns.outcome w.look_at.new.outcome sister.terms_are sister.provider_is
                (looks.looks published known)) sister.terms_are
                (deep-sisters anchor.terms anchor.provider at a b old rest first before.sisters w.look_at.new.waiting
                looks.waiting) first insert (before.walked published known uris sole);
          }))
      | else-branch w ↦
          let insert = rw w.if-branch.false at c.in_ok-insert.ensures in
          rw w.waiting-is
          (rw w.outcome-is
          (record {
            sisters = rest-sisters anchor.terms anchor.provider at a b old rest first before.sisters;
            walked = λ published known uris sole.
                passed published basis uris anchor sole a old rest c.turns.looked c.insert.new.self c.turns.outcome b
                first insert (before.walked published known uris sole);
          }))
    ]
