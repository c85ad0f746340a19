use Rattle.rpki_time.proofs.TimeValueLaws.{time-same}
use Rattle.rpki_time.proofs.time.Time.encode_varied.Goals as goal

pub returns-clause-same : goal.returns-clause-same
returns-clause-same c = λ other there. time-same c.args.self other c.well_formed.0.1.0.1 there

pub returns-clause-year : goal.returns-clause-year
returns-clause-year c = c.well_formed.0.1.0.1
