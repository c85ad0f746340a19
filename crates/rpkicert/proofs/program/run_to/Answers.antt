use Rattle.std.proofs.Common.{ap, subst}
use Rattle.rpkicert.specs.Program.{Done, Starved}
use Rattle.rpkicert.specs.Words.{Complains, memory_text}
use Rattle.rpkicert.proofs.program.run_to.Goals as goal

pub returns-in-Ok-clause-run : goal.returns-in-Ok-clause-run
returns-in-Ok-clause-run g c = λ k. Done (record {
  of_help = c.in-Ok.ensures.help k;
  of_version = c.in-Ok.ensures.version k;
  of_files = c.in-Ok.ensures.files k;
  of_others = c.in-Ok.ensures.usage k;
})

pub returns-in-Err-clause-run : goal.returns-in-Err-clause-run
returns-in-Err-clause-run g c = λ k.
    Starved (subst (λ w. Complains w (g.M.Machine.world c.give_up.new.machine) memory_text c.give_up.result)
    (ap g.M.Machine.world c.in-Err.ensures.kept) (c.give_up.ensures.told (c.run.ensures.known k)))
