use Rattle.std.proofs.Common.{rules}
use Rattle.rpki_c.proofs.MomentLaws.{is-moment}
use Rattle.rpki_c.proofs.times.moment_of.Goals as goal

pub returns : goal.returns
returns c = λ whole. is-moment c.args.time _ whole (search rules) (search rules) (search rules)
