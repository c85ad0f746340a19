use Rattle.std.proofs.Common.{refl, ap}
use Rattle.std.specs.Prelude.{Ok, Err, option_map}
use Rattle.rpkicert.specs.OutcomeView.{found_of}
use Rattle.rpkicert.specs.RequestView.{asked_of}
use Rattle.rpkicert.proofs.SettledLaws.{by-issuer, by-none, denied-by}
use Rattle.rpkicert.proofs.runs.show_at.Goals as goal

pub returns-in-None-clause-run : goal.returns-in-None-clause-run
returns-in-None-clause-run g c = λ k m.
    by-none _ _ (asked_of c.args.request.now) _ _ _ _ (ap (option_map _) c.in-None.is) m (c.show_held.ensures.run k)

pub returns-in-Ok-clause-run : goal.returns-in-Ok-clause-run
returns-in-Ok-clause-run g c = λ k m.
    by-issuer _ _ (asked_of c.args.request.now) c.in-Some.name.now _
    (Ok (found_of c.in-Ok.found)) _ _ _ _ (ap (option_map _) c.in-Some.is) m
    c.in-Ok.ensures refl (c.show_issued.ensures.run k)

pub returns-in-Err-clause-run : goal.returns-in-Err-clause-run
returns-in-Err-clause-run g c = λ k m.
    by-issuer _ _ (asked_of c.args.request.now) c.in-Some.name.now _ (Err c.in-Err.fault) (Err c.in-Err.fault) _ _ _
    (ap (option_map _) c.in-Some.is) m c.in-Err.ensures refl
    (denied-by c.wrong_issuer.result _ _ _ _ c.wrong_issuer.ensures (c.deny.ensures.told k))
