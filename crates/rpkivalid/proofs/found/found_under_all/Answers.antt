use Rattle.std.proofs.Common.{◌∙◌, List, map, subst}
use Rattle.std.proofs.lemmas.List.{length-map}
use Rattle.rpkivalid.specs.declared.locators.Named.{Named}
use Rattle.rpkivalid.specs.Found.{IsFoundIn, basis_with}
use Rattle.rpkivalid.specs.LocatorsView.{named_of}
use Rattle.rpkivalid.specs.Reported.{IsReportIn}
use Rattle.rpkivalid.proofs.ExplainedLaws.{IsToldUpTo, told-end, told-step}
use Rattle.rpkivalid.proofs.FoundLaws.{IsUpTo, found-end, found-step}
use Rattle.rpkivalid.proofs.found.found_under_all.Goals as goal

pub locators-init : goal.locators-init
locators-init g c =
    (rw c.new-payloads.ensures.items (λ more others h. h), rw c.new-report.ensures.items (λ more others h. h))

pub locators-preserved : goal.locators-preserved
locators-preserved g c =
    let basis = basis_with g.P.Provider c.args.provider.now c.args.strictness c.args.at c.args.depth in
    let R = IsFoundIn (g.S.Sources.holds c.args.sources.now) c.args.folder.now basis in
    let T = IsReportIn (g.S.Sources.holds c.args.sources.now) c.args.folder.now basis in
    let all = map named_of c.args.locators.now in
    let rest = map named_of c.in-Some.following.now in
    let before = subst (λ (r : List Named). IsUpTo R all (map named_of r) c.locators.payloads.items
    c.locators.have_anchors) c.in-Some.ensures.cases.0 c.locators.invariant.0 in
    let told = subst (λ (r : List Named). IsToldUpTo T all (map named_of r) c.locators.report.items
    c.locators.have_anchors) c.in-Some.ensures.cases.0 c.locators.invariant.1 in (
      rw (c.in_ok-push.ensures.items, c.both-have_anchors.ensures)
          (found-step R all rest (named_of c.in-Some.named.now) c.locators.payloads.items
          c.locators.have_anchors _ _ before c.in_ok-one.ensures.found),
      rw (c.in_ok-extend_from_slice.ensures.items, c.as_slice.ensures.value, c.both-have_anchors.ensures)
          (told-step T all rest (named_of c.in-Some.named.now) c.locators.report.items
          c.locators.have_anchors _ _ told c.in_ok-one.ensures.told),
    )

pub returns-clause-found : goal.returns-clause-found
returns-clause-found g c =
    let R = IsFoundIn (g.S.Sources.holds c.args.sources.now) c.args.folder.now
    (basis_with g.P.Provider c.args.provider.now c.args.strictness c.args.at c.args.depth) in
    found-end R (map named_of c.args.locators.now) (map named_of c.locators.rest.now) c.locators.payloads.items
    c.locators.have_anchors (length-map c.locators.rest.now named_of ∙ c.in_default.ensures.cases)
    c.locators.invariant.0

pub returns-clause-told : goal.returns-clause-told
returns-clause-told g c =
    let T = IsReportIn (g.S.Sources.holds c.args.sources.now) c.args.folder.now
    (basis_with g.P.Provider c.args.provider.now c.args.strictness c.args.at c.args.depth) in
    told-end T (map named_of c.args.locators.now) (map named_of c.locators.rest.now) c.locators.report.items
    c.locators.have_anchors (length-map c.locators.rest.now named_of ∙ c.in_default.ensures.cases)
    c.locators.invariant.1
