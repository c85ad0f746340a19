use Rattle.std.proofs.Common.{◌∙◌, List, map, subst}
use Rattle.std.proofs.lemmas.List.{length-map}
use Rattle.rpkivalid.specs.declared.locators.Named.{Named}
use Rattle.rpkivalid.specs.Explained.{IsToldOf}
use Rattle.rpkivalid.specs.Found.{basis_with}
use Rattle.rpkivalid.specs.LocatorsView.{named_of}
use Rattle.rpkivalid.proofs.ExplainedLaws.{IsToldUpTo, told-step, told-end}
use Rattle.rpkivalid.proofs.explained.told_under_all.Goals as goal

pub locators-preserved : goal.locators-preserved
locators-preserved g c =
    let basis = basis_with g.P.Provider c.args.provider.now c.args.strictness c.args.at c.args.depth in
    let R = IsToldOf (g.S.Sources.holds c.args.sources.now) c.args.folder.now c.args.strictness basis
    c.args.question.now in
    let all = map named_of c.args.locators.now in
    let before = subst (λ (r : List Named). IsToldUpTo R all (map named_of r) c.locators.text.items
    c.locators.have_anchors) c.in-Some.ensures.cases.0 c.locators.invariant in
    rw (c.in_ok-extend_from_slice.ensures.items, c.as_slice.ensures.value, c.both-have_anchors.ensures)
    (told-step R all (map named_of c.in-Some.following.now) (named_of c.in-Some.named.now) c.locators.text.items
    c.locators.have_anchors _ _ before c.in_ok-one.ensures)

pub returns-clause-told : goal.returns-clause-told
returns-clause-told g c =
    let basis = basis_with g.P.Provider c.args.provider.now c.args.strictness c.args.at c.args.depth in
    let R = IsToldOf (g.S.Sources.holds c.args.sources.now) c.args.folder.now c.args.strictness basis
    c.args.question.now in
    told-end R (map named_of c.args.locators.now) (map named_of c.locators.rest.now) c.locators.text.items
    c.locators.have_anchors (length-map c.locators.rest.now named_of ∙ c.in_default.ensures.cases) c.locators.invariant
