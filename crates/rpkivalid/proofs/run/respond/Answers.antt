use Rattle.std.proofs.Common.{sym, ◌∙◌}
use Rattle.rpkivalid.specs.RequestView.{asked_of, rows_in}
use Rattle.rpkivalid.proofs.RequestLaws.{the-run}
use Rattle.rpkivalid.proofs.run.respond.Goals as goal

pub returns-in-Some-clause-run : goal.returns-in-Some-clause-run
returns-in-Some-clause-run g c = λ a h.
    let same = the-run (rows_in c.args.matches.now) (asked_of c.in-Some.request) a
    (sym c.is_given.ensures ∙ c.if-is_given.false)
    (sym c.is_given-2.ensures ∙ c.if-is_given-2.false) c.in-Some.ensures h in
    rw (← same) c.answered.ensures
