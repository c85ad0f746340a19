use Rattle.rpki_time.proofs.HashLaws.{periods-hashed}
use Rattle.rpki_time.proofs.laws.periods_are_hashed_by_moments.Goals as goal

pub returns : goal.returns
returns c = periods-hashed
