use Rattle.std.proofs.Common.{◌≡◌, ◌++◌, length}
use Rattle.rpki_payloads.specs.FilterKeys.{lengths_in}
use Rattle.rpki_payloads.proofs.filter_keys.lengths_in.Given as goal

abbrev pub invariant-filters : goal.invariant-filters
invariant-filters l = lengths_in l.filters ≡ l.all.items ++ lengths_in l.rest

abbrev pub decreases-filters : goal.decreases-filters
decreases-filters l = length l.rest
