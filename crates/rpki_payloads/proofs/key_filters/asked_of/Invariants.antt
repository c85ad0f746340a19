use Rattle.std.proofs.Common.{length}
use Rattle.std.specs.BTreeSet.{keys}
use Rattle.rpki_payloads.specs.Asked.{asked_by}
use Rattle.rpki_payloads.proofs.GatheredLaws.{AreGathered}
use Rattle.rpki_payloads.proofs.key_filters.asked_of.Given as goal

abbrev pub invariant-filters : goal.invariant-filters
invariant-filters l = AreGathered asked_by l.filters l.rest (keys l.all)

abbrev pub decreases-filters : goal.decreases-filters
decreases-filters l = length l.rest
