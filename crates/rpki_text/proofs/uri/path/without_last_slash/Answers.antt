use Rattle.std.proofs.Common.{◌++◌, ◌∷◌, [], ap, ◌∙◌, arith}
use Rattle.std.proofs.lemmas.Bool.Decides.{nat_tests}
use Rattle.rpki_text.proofs.HttpsPartLaws.{without_slash-stripped, without_slash-kept}
use Rattle.rpki_text.proofs.uri.path.without_last_slash.Goals as goal

pub returns-then-last-eq47 : goal.returns-then-last-eq47
returns-then-last-eq47 c =
    without_slash-stripped c.args.path.now c.in-Some.front.now
    (c.in-Some.ensures.cases.0 ∙ ap (λ b. c.in-Some.front.now ++ b ∷ []) c.if-last-eq47.true)

pub returns-else-last-eq47 : goal.returns-else-last-eq47
returns-else-last-eq47 c =
    without_slash-kept c.args.path.now c.in-Some.front.now _ c.in-Some.ensures.cases.0 (grind (arith, nat_tests))
