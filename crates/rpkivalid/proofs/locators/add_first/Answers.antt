use Rattle.std.proofs.Common.{◌∙◌}
use Rattle.std.proofs.lemmas.List.{length-map}
use Rattle.rpkivalid.proofs.LocatorLaws.{adds-none, both-ok}
use Rattle.rpkivalid.proofs.locators.add_first.Goals as goal

pub returns-in-Some-clause-ok : goal.returns-in-Some-clause-ok
returns-in-Some-clause-ok g c =
    rw c.in-Some.ensures.cases.0 (both-ok _ _ c.add_once.result c.add_once.ensures.same c.add_once.ensures.next)

pub returns-in-None-clause-ok : goal.returns-in-None-clause-ok
returns-in-None-clause-ok g c =
    adds-none (g.S.Sources.holds c.args.sources.now) _ c.args.all.now.items
    (length-map c.args.rest.now (λ file. file.now) ∙ c.in-None.ensures.cases)

pub returns-in-Some-clause-err : goal.returns-in-Some-clause-err
returns-in-Some-clause-err g c = rw c.in-Some.ensures.cases.0 c.add_once.ensures.err
