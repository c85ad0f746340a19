use Rattle.std.proofs.Common.{ap}
use Rattle.std.specs.Prelude.{option_map}
use Rattle.rpkivalid.proofs.run.response_at.Goals as goal

pub comparison_at-requires-clause-compare : goal.comparison_at-requires-clause-compare
comparison_at-requires-clause-compare g c = ap (option_map (λ n. n.now)) c.in-Some.is

pub reply_at-requires-clause-compare : goal.reply_at-requires-clause-compare
reply_at-requires-clause-compare g c = ap (option_map (λ n. n.now)) c.in-None.is
