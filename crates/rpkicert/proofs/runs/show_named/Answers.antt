use Rattle.std.proofs.Common.{◌≡◌, true, false, ap, rules}
use Rattle.rpkicert.specs.RequestView.{asked_of}
use Rattle.rpkicert.proofs.UnderLaws.{plain, unnamed}
use Rattle.rpkicert.proofs.runs.show_named.Goals as goal

pub returns-then-not-request-clause-run : goal.returns-then-not-request-clause-run
returns-then-not-request-clause-run g c = λ k.
    let r : c.args.request.now.recursive ≡ false = search rules in
    plain (g.S.Sources.lists c.args.sources.now) (g.S.Sources.holds c.args.sources.now)
    (g.S.Sources.clock c.args.sources.now) (g.M.Machine.world c.args.machine.now)
    (g.M.Machine.world c.show_all.new.machine) c.show_all.result (asked_of c.args.request.now) r
    (c.show_all.ensures.run k)

pub returns-in-Ok-clause-run : goal.returns-in-Ok-clause-run
returns-in-Ok-clause-run g c = λ k.
    let r : c.args.request.now.recursive ≡ true = search rules in c.in-Ok.ensures.shown k r

pub returns-in-Err-clause-run : goal.returns-in-Err-clause-run
returns-in-Err-clause-run g c = λ k.
    unnamed (g.S.Sources.lists c.args.sources.now) (g.S.Sources.holds c.args.sources.now)
    (g.S.Sources.clock c.args.sources.now) (g.M.Machine.world c.args.machine.now)
    (g.M.Machine.world c.show_under.new.machine) (g.M.Machine.world c.give_up.new.machine) c.give_up.result
    (asked_of c.args.request.now) (ap g.M.Machine.world c.in-Err.ensures.kept)
    (c.give_up.ensures.told (c.show_under.ensures.known k))
