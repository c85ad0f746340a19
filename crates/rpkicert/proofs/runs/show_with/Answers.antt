use Rattle.std.proofs.Common.{refl, ap}
use Rattle.std.specs.Prelude.{option_map}
use Rattle.rpkicert.specs.OutcomeView.{finding_of}
use Rattle.rpkicert.specs.RequestView.{asked_of}
use Rattle.rpkicert.proofs.SettledLaws.{by-found, by-no-list}
use Rattle.rpkicert.proofs.runs.show_with.Goals as goal

pub returns-in_default-clause-run : goal.returns-in_default-clause-run
returns-in_default-clause-run g c = λ k.
    by-no-list _ _ _ _ _ _ (asked_of c.args.request.now) _ (ap (option_map _) c.in_default.is)
    (c.show_held.ensures.run k)

pub returns-clause-run : goal.returns-clause-run
returns-clause-run g c = λ k.
    by-found _ c.in-Some.name.now _ _ (finding_of c.find_list-found.result) _ _ _ _ (asked_of c.args.request.now) _
    (ap (option_map _) c.in-Some.is) c.find_list-found.ensures refl
    (c.show_found.ensures.run k)
