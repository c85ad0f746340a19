use Rattle.rpki_time.proofs.HashLaws.{times-hashed}
use Rattle.rpki_time.proofs.laws.times_are_hashed_by_moment.Goals as goal

pub returns : goal.returns
returns c = times-hashed
