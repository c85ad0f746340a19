use Rattle.std.proofs.Common.{ap}
use Rattle.std.specs.Prelude.{option_map}
use Rattle.rpkicert.specs.RequestView.{asked_of}
use Rattle.rpkicert.proofs.SettledLaws.{no-moment, the-moment, wrong-moment, denied-by}
use Rattle.rpkicert.proofs.runs.show_all.Goals as goal

pub returns-in-None-clause-run : goal.returns-in-None-clause-run
returns-in-None-clause-run g c = λ k. c.show_at.ensures.run k (no-moment _ _ (ap (option_map _) c.in-None.is))

pub returns-in-Some-moment_at-clause-run : goal.returns-in-Some-moment_at-clause-run
returns-in-Some-moment_at-clause-run g c = λ k.
    c.show_at-in-Some-moment_at.ensures.run k
    (the-moment _ _ c.in-Some.word.now c.in-Some-moment_at.moment (ap (option_map _) c.in-Some.is)
    c.in-Some-moment_at.ensures.some)

pub returns-in-None-moment_at-clause-run : goal.returns-in-None-moment_at-clause-run
returns-in-None-moment_at-clause-run g c = λ k.
    wrong-moment _ _ (asked_of c.args.request.now) c.in-Some.word.now _ _ _ (ap (option_map _) c.in-Some.is)
    c.in-None-moment_at.ensures.none
    (denied-by c.wrong_moment.result _ _ _ _ c.wrong_moment.ensures (c.deny.ensures.told k))
