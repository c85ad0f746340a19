use Rattle.std.proofs.Common.{inl, inr, refl, rules}
use Rattle.rpkicert.proofs.RunLaws.{writes-both}
use Rattle.rpkicert.proofs.runs.write_both.Goals as goal

pub returns-then-not-print-clause-written : goal.returns-then-not-print-clause-written
returns-then-not-print-clause-written g c = λ k. inl (
  g.M.Machine.world c.print.new.self,
  c.print.ensures.no k (search rules),
  c.unprinted.ensures.told (c.print.ensures.known k),
)

pub returns-then-not-tell-clause-written : goal.returns-then-not-tell-clause-written
returns-then-not-tell-clause-written g c = λ k. inr (
  g.M.Machine.world c.print.new.self,
  c.print.ensures.yes k (search rules),
  c.tell.ensures.no (c.print.ensures.known k) (search rules),
)

pub returns-clause-written : goal.returns-clause-written
returns-clause-written g c = λ k. (
  writes-both _ (g.M.Machine.world c.print.new.self) _ _ _ (c.print.ensures.yes k (search rules))
      (c.tell.ensures.yes (c.print.ensures.known k) (search rules)),
  refl,
)
