use Rattle.std.proofs.Common.{◌≡◌, ◌++◌, take}
use Rattle.rpki_payloads.specs.Conflict.{filtered_numbers}
use Rattle.rpki_payloads.proofs.conflict.push_filtered_numbers.Given as goal

abbrev pub invariant-filters : goal.invariant-filters
invariant-filters l = l.all.items ≡ l.initial.all.items ++ filtered_numbers (take l.filter-index l.filters)
