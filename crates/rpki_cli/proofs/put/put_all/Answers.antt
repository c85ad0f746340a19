use Rattle.std.proofs.Common.{rules}
use Rattle.rpki_cli.proofs.put.put_all.Goals as goal

pub put_both-requires : goal.put_both-requires
put_both-requires g c = λ e. c.requires c.in-Some.name.now (search rules) (search (rules, e))

pub returns-in-None-metrics-clause-put : goal.returns-in-None-metrics-clause-put
returns-in-None-metrics-clause-put g c = λ k. let p = c.print_text.ensures.put k c.args.counts.now in search (
  rules,
  p,
)

pub returns-in-None-metrics-2-clause-put : goal.returns-in-None-metrics-2-clause-put
returns-in-None-metrics-2-clause-put g c = λ k. let p = c.put_text.ensures.put k c.args.counts.now in search (
  rules,
  p,
)
