use Rattle.std.proofs.Common.{length}
use Rattle.std.specs.BTreeSet.{keys}
use Rattle.rpki_payloads.specs.FilterKeys.{key_of}
use Rattle.rpki_payloads.proofs.GatheredLaws.{AreGathered}
use Rattle.rpki_payloads.proofs.filter_keys.keys_of.Given as goal

abbrev pub invariant-filters : goal.invariant-filters
invariant-filters l = AreGathered key_of l.filters l.rest (keys l.all)

abbrev pub decreases-filters : goal.decreases-filters
decreases-filters l = length l.rest
