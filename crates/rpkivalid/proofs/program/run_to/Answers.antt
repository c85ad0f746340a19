use Rattle.std.proofs.Common.{inl, inr, refl, rules}
use Rattle.rpkivalid.proofs.ProgramLaws.{ran, starved, unready}
use Rattle.rpkivalid.proofs.program.run_to.Goals as goal

pub returns-in_default-clause-run : goal.returns-in_default-clause-run
returns-in_default-clause-run g c = λ k.
    starved _ _ _ _ _ _ _ _ _ (g.M.Machine.world c.args.machine.now) _ refl (inl refl) (c.give_up.ensures.told k)
    c.give_up.ensures.status

pub returns-then-not-is_ready-clause-run : goal.returns-then-not-is_ready-clause-run
returns-then-not-is_ready-clause-run g c = λ k.
    unready _ _ _ _ _ _ _ _ _ _ c.in-Ok.ensures (c.is_ready.ensures.no k (search rules)) refl

pub returns-in-Ok-made_of-clause-run : goal.returns-in-Ok-made_of-clause-run
returns-in-Ok-made_of-clause-run g c = λ k.
    ran _ _ _ _ _ _ _ _ _ (g.M.Machine.world c.is_ready.new.m) _ _ c.in-Ok.ensures
    (c.is_ready.ensures.yes k (search rules)) c.in-Ok-made_of.ensures
    (c.delivered.ensures.delivered (c.is_ready.ensures.known k))

pub returns-in-Err-clause-run : goal.returns-in-Err-clause-run
returns-in-Err-clause-run g c = λ k.
    starved _ _ _ _ _ _ _ _ _ (g.M.Machine.world c.is_ready.new.m) _ c.in-Ok.ensures
    (inr (c.is_ready.ensures.yes k (search rules))) (c.give_up-in-Err.ensures.told (c.is_ready.ensures.known k))
    c.give_up-in-Err.ensures.status
