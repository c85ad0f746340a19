use Rattle.std.proofs.Common.{◌≡◌, ◌∙◌, ap, map, string_bytes, rules}
use Rattle.std.specs.Prelude.{Some, option_and_then}
use Rattle.rpkicert.specs.Request.{matched, wanted_in}
use Rattle.rpkicert.specs.RequestView.{rows_in}
use Rattle.rpkicert.proofs.runs.run.Goals as goal

pub returns-in-Ok-Some-clause-files : goal.returns-in-Ok-Some-clause-files
returns-in-Ok-Some-clause-files g c = λ k a h.
    let met : Some (rows_in c.in-Ok-Some.matches) ≡ matched (map string_bytes c.args.words.now) = search rules in
    c.answer.ensures.files k a (ap (option_and_then wanted_in) met ∙ h)
