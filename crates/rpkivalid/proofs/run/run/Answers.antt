use Rattle.std.proofs.Common.{◌≡◌, ◌∙◌, ap, map, string_bytes, rules}
use Rattle.std.specs.Prelude.{Some, option_and_then}
use Rattle.rpkivalid.specs.Request.{matched, wanted_in}
use Rattle.rpkivalid.specs.RequestView.{rows_in}
use Rattle.rpkivalid.proofs.run.run.Goals as goal

pub returns-in-Ok-Some-clause-run : goal.returns-in-Ok-Some-clause-run
returns-in-Ok-Some-clause-run g c = λ a h.
    let met : Some (rows_in c.in-Ok-Some.matches) ≡ matched (map string_bytes c.args.words.now) = search rules in
    c.respond.ensures.run a (ap (option_and_then wanted_in) met ∙ h)
