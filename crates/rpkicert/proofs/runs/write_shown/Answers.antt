use Rattle.std.proofs.Common.{ap, subst, sym}
use Rattle.rpkicert.specs.Output.{WritesBoth}
use Rattle.rpkicert.specs.OutputView.{seen_of}
use Rattle.rpkicert.proofs.runs.write_shown.Goals as goal

pub returns-in-Err-clause-written : goal.returns-in-Err-clause-written
returns-in-Err-clause-written g c = λ k.
    subst (λ s. WritesBoth (g.M.Machine.world c.args.machine.now) (g.M.Machine.world c.write_both-in-Err.new.machine) s
    c.write_both-in-Err.result) (sym (ap seen_of c.in-Err.is)) (c.write_both-in-Err.ensures.written k)
