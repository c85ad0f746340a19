use Rattle.rpki_time.proofs.TimeValueLaws.{utc-same}
use Rattle.rpki_time.proofs.time.Time.encode_utc_time.Goals as goal

pub returns-clause-same : goal.returns-clause-same
returns-clause-same c = λ other here there. utc-same c.args.self other here there
