use Rattle.std.proofs.Common.{rules}
use Rattle.rpki_cli.specs.Reported.{Untold}
use Rattle.rpki_cli.proofs.give.is_reported.Goals as goal

pub returns-clause-no : goal.returns-clause-no
returns-clause-no g c = λ k e.
    Untold (g.M.Machine.world c.is_logged.new.m) (c.is_logged.ensures.yes k (search rules))
    (c.tell.ensures.no (c.is_logged.ensures.known k) e)
