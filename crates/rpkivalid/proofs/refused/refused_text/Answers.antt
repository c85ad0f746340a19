use Rattle.std.proofs.Common.{List, subst}
use Rattle.std.specs.Prelude.{IfSome}
use Rattle.rpki_validation.specs.declared.outcome.Rejection.{Rejection}
use Rattle.rpkivalid.proofs.RefusedLaws.{IsRefusedUpTo, refused-step, refused-end}
use Rattle.rpkivalid.proofs.refused.refused_text.Goals as goal

pub rejections-preserved : goal.rejections-preserved
rejections-preserved g c =
    let holds = g.S.Sources.holds c.args.sources.now in
    let before = subst (λ (r : List Rejection). IfSome holds (λ files. IsRefusedUpTo files c.args.folder.now
    c.args.strictness c.args.question.now c.args.name.now c.args.rejections.now r c.rejections.text.items))
    c.in-Some.ensures.cases.0 c.rejections.invariant in
    rw (c.in_ok-push_all_refused.ensures, c.as_slice.ensures.value)
    (refused-step c.args.folder.now c.args.strictness c.args.question.now c.args.name.now c.args.rejections.now holds
    c.in-Some.following.now c.in-Some.rejection.now c.rejections.text.items c.in_ok-origins.origins.items before
    c.in_ok-origins.ensures)

pub returns : goal.returns
returns g c =
    refused-end c.args.folder.now c.args.strictness c.args.question.now c.args.name.now c.args.rejections.now
    (g.S.Sources.holds c.args.sources.now) c.rejections.rest.now c.rejections.text.items
    c.in_default.ensures.cases c.rejections.invariant
