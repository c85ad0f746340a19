use Rattle.std.proofs.Common.{◌≡◌, ◌<◌, [], length, rules, arith}
use Rattle.std.proofs.lemmas.Grind.{common_steps}
use Rattle.rpki_text.proofs.HttpsPartLaws.{path_above-none, path_above-some}
use Rattle.rpki_text.proofs.uri.path.len_above.Goals as goal

pub returns-then-is_empty-clause-none : goal.returns-then-is_empty-clause-none
returns-then-is_empty-clause-none c =
    let e : c.without_last_slash-front.result.now ≡ [] = search (rules, common_steps) in
    path_above-none c.args.path.now _ c.without_last_slash-front.ensures e

pub returns-clause-some : goal.returns-clause-some
returns-clause-some c =
    let some : 0 < length c.without_last_slash-front.result.now = grind (arith, common_steps) in
    path_above-some c.args.path.now _ c.after_last_slash.result c.without_last_slash-front.ensures some
    c.after_last_slash.ensures.value
