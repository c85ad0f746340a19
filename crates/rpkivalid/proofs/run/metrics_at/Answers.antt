use Rattle.rpkivalid.proofs.run.metrics_at.Goals as goal

pub returns-clause-made : goal.returns-clause-made
returns-clause-made g c = (c.in-Some.now, c.in-Some.ensures.some, c.seconds.result, c.in_ok-text.ensures)
