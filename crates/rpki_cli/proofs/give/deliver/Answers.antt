use Rattle.std.proofs.Common.{rules}
use Rattle.rpki_cli.specs.Delivered.{Delivered, Unreported}
use Rattle.rpki_cli.proofs.give.deliver.Goals as goal

pub returns-then-not-is_reported-clause-delivered : goal.returns-then-not-is_reported-clause-delivered
returns-then-not-is_reported-clause-delivered g c = λ k. Unreported (c.is_reported.ensures.no k (search rules))
    (search rules)

pub returns-clause-delivered : goal.returns-clause-delivered
returns-clause-delivered g c = λ k.
    Delivered (g.M.Machine.world c.is_reported.new.m) (c.is_reported.ensures.yes k (search rules)) (search rules)
    (c.give.ensures.given (c.is_reported.ensures.known k))
