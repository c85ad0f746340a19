use Rattle.std.proofs.Common.{sym, ◌∙◌}
use Rattle.rpkicert.specs.RequestView.{asked_of, rows_in}
use Rattle.rpkicert.proofs.RequestLaws.{the-files}
use Rattle.rpkicert.proofs.runs.answer.Goals as goal

pub returns-in-Some-clause-files : goal.returns-in-Some-clause-files
returns-in-Some-clause-files g c = λ k a h.
    let same = the-files (rows_in c.args.matches.now) (asked_of c.in-Some.request) a
    (sym c.is_given.ensures ∙ c.if-is_given.false)
    (sym c.is_given-2.ensures ∙ c.if-is_given-2.false) c.in-Some.ensures h in
    rw (← same) (c.show_named.ensures.run k)
