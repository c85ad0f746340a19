use Rattle.std.proofs.Common.{ap}
use Rattle.std.specs.Option.{option_map}
use Rattle.rpkivalid.proofs.MomentLaws.{clock-moment, unclocked}
use Rattle.rpkivalid.proofs.moment.moment_at.Goals as goal

pub returns-in-None-clause-some : goal.returns-in-None-clause-some
returns-in-None-clause-some g c = clock-moment _ _ _ (ap (option_map _) c.in-None.is) c.now.ensures

pub returns-in-None-clause-none : goal.returns-in-None-clause-none
returns-in-None-clause-none g c = unclocked _ _ _ (ap (option_map _) c.in-None.is) c.now.ensures
