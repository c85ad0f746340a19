use Rattle.std.proofs.Common.{◌≡◌, ◌++◌, take}
use Rattle.std.specs.List.{flat_map}
use Rattle.rpki_payloads.specs.Changed.{filtered_line}
use Rattle.rpki_payloads.proofs.changed.push_each_filtered.Given as goal

abbrev pub invariant-filters : goal.invariant-filters
invariant-filters l =
    l.text.items ≡ l.initial.text.items ++ flat_map (filtered_line l.name l.vrp) (take l.filter-index l.filters)
