use Rattle.std.proofs.Common.{length}
use Rattle.std.specs.BTreeSet.{keys}
use Rattle.rpki_payloads.proofs.AskedLaws.{AreLeft}
use Rattle.rpki_payloads.proofs.key_filters.left_by_all.Given as goal

abbrev pub invariant-each : goal.invariant-each
invariant-each l = AreLeft (keys l.all) l.keys l.rest l.left.items

abbrev pub decreases-each : goal.decreases-each
decreases-each l = length l.rest
