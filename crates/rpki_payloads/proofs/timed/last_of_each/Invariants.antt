use Rattle.std.proofs.Common.{length}
use Rattle.rpki_payloads.specs.Timed.{HasLater}
use Rattle.rpki_payloads.proofs.AmongLaws.{IsKeptOf}
use Rattle.rpki_payloads.proofs.TimedLaws.{IsAhead}
use Rattle.rpki_payloads.proofs.timed.last_of_each.Given as goal

abbrev pub invariant-all : goal.invariant-all
invariant-all l = IsKeptOf (HasLater l.all) l.all l.rest l.kept.items × IsAhead l.all l.rest

abbrev pub decreases-all : goal.decreases-all
decreases-all l = length l.rest
