use Rattle.std.proofs.Common.{◌≡◌, ◌++◌, take}
use Rattle.rpki_payloads.specs.Conflict.{filtered_prefixes}
use Rattle.rpki_payloads.proofs.conflict.push_filtered_prefixes.Given as goal

abbrev pub invariant-filters : goal.invariant-filters
invariant-filters l = l.all.items ≡ l.initial.all.items ++ filtered_prefixes (take l.filter-index l.filters)
