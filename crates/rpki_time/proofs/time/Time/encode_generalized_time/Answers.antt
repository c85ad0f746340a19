use Rattle.rpki_time.proofs.TimeValueLaws.{generalized-same}
use Rattle.rpki_time.proofs.time.Time.encode_generalized_time.Goals as goal

pub returns-clause-same : goal.returns-clause-same
returns-clause-same c = λ other there. generalized-same c.args.self other c.well_formed.0.1.0.1 there
